use Rattle.ps_bench_watch.proofs.Rowing.{table_back}
use Rattle.ps_bench_watch.proofs.laws.rows_are_read.Goals as goal

pub returns : goal.returns
returns c = table_back
