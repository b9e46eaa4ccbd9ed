use Rattle.ps_bench_logs.proofs.Trace.{recorded_back}
use Rattle.ps_bench_logs.proofs.laws.recorded_trace_is_read.Goals as goal

pub returns : goal.returns
returns c = λ net text sound seen long fits. recorded_back net text sound seen long fits
