use Rattle.ps_bench_report.proofs.Adding.{adds_behind}
use Rattle.ps_bench_report.specs.Contents.{table_back}
use Rattle.ps_bench_report.proofs.tables.open_results.Goals as goal

pub returns : goal.returns
returns c = adds_behind c.args.page.now c.close_table.new.page c.open_table.new.page table_back _ c.close_table.ensures c.open_table.ensures
