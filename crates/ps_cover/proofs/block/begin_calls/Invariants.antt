use Rattle.ps_cover.specs.Covers.{idle_call}
use Rattle.ps_cover.proofs.Listed.{Turned}
use Rattle.ps_cover.proofs.block.begin_calls.Given as goal

abbrev pub invariant-loop-k : goal.invariant-loop-k
invariant-loop-k l = Turned idle_call l.fn.calls l.calls l.k
