use Rattle.ps_bench_watch.proofs.Back.{log_means}
use Rattle.ps_bench_watch.proofs.laws.log_means_trace.Goals as goal

pub returns : goal.returns
returns c = λ net setup faults trace ws is. log_means net setup faults trace ws is (c.scans_in_order.ensures trace net)
