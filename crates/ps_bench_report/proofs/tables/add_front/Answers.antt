use Rattle.ps_bench_report.proofs.Adding.{adds_behind}
use Rattle.ps_bench_report.specs.Contents.{head_pieces}
use Rattle.ps_bench_report.specs.Files.{file_row}
use Rattle.ps_bench_report.proofs.tables.add_front.Goals as goal

pub returns : goal.returns
returns c =
    adds_behind c.args.page.now c.add_head.new.page c.add_file.new.page (head_pieces c.args.title.now) _ c.add_head.ensures
    (adds_behind c.add_head.new.page c.open_table.new.page c.add_file.new.page _ (file_row c.args.name.now c.args.digest.now) c.open_table.ensures c.add_file.ensures)
