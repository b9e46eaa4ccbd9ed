use Rattle.ps_demand.specs.Passes.{AreCounts}
use Rattle.ps_demand.proofs.counting.count_signals.Given as goal

abbrev pub invariant-loop-k : goal.invariant-loop-k
invariant-loop-k l = AreCounts l.app l.k l.counts.items
