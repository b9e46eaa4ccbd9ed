use Rattle.std.proofs.Common.{◌+◌}
use Rattle.ps_demand.specs.Passes.{KeepsWanted}
use Rattle.ps_demand.proofs.releasing.+release_value.Given as goal

abbrev pub decreases-release_value : goal.decreases-release_value
decreases-release_value l = goal.size-release_value l

abbrev pub invariant-loop-x : goal.invariant-loop-x
invariant-loop-x l = KeepsWanted l.last (l.k + 1) l.fn.rows.items l.rows.items
