use Rattle.ps_cover.proofs.Listed.{Turned}
use Rattle.ps_bench_why.specs.Walking.{renewed}
use Rattle.ps_bench_why.proofs.walker.renew.Given as goal

abbrev pub invariant-loop-i : goal.invariant-loop-i
invariant-loop-i l = Turned renewed l.fn.kept l.kept l.i
