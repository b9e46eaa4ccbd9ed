use Rattle.ps_bench_waves.specs.Watching.{at_first}
use Rattle.ps_bench_watch.proofs.Objecting.{objects_back}
use Rattle.ps_bench_watch.proofs.laws.objects_are_read.Goals as goal

pub returns : goal.returns
returns c = λ net names items ms bits. objects_back net names at_first items ms bits
