use Rattle.std.proofs.Common.{◌≤◌, length}
use Rattle.ps_demand.specs.Wanted.{AreLast}
use Rattle.ps_demand.proofs.wanted.last_readers.Given as goal

abbrev pub invariant-loop-k : goal.invariant-loop-k
invariant-loop-k l = record {
  within : l.k ≤ length l.app.steps;
  are : AreLast l.app l.k l.first l.end l.last.items;
}

abbrev pub decreases-loop-k : goal.decreases-loop-k
decreases-loop-k l = l.k
