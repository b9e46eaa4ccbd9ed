use Rattle.ps_demand.specs.Passes.{AreCounts, AreSlim}
use Rattle.ps_demand.proofs.slimming.slim_signals.Given as goal

abbrev pub invariant-loop-k : goal.invariant-loop-k
invariant-loop-k l = record {
  counted : AreCounts l.app l.k l.counts.items;
  small : AreSlim l.app l.k l.last.items l.rows.items;
}
