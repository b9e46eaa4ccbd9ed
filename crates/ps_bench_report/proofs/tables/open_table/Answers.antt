use Rattle.std.specs.List.{flat_map}
use Rattle.ps_bench_report.proofs.Adding.{adds_behind}
use Rattle.ps_bench_report.specs.Parts.{pieces_of}
use Rattle.ps_bench_report.proofs.tables.open_table.Goals as goal

pub returns : goal.returns
returns c =
    adds_behind c.args.page.now c.add_parts.new.page c.add_parts-3.new.page _ _ c.add_parts.ensures
    (adds_behind c.add_parts.new.page c.add_parts-2.new.page c.add_parts-3.new.page (flat_map pieces_of c.args.columns.now) _ c.add_parts-2.ensures c.add_parts-3.ensures)
