use Rattle.std.proofs.Common.{◌+◌}
use Rattle.ps_demand.specs.Passes.{KeepsWanted}
use Rattle.ps_demand.proofs.releasing.release_outputs.Given as goal

abbrev pub invariant-loop-j : goal.invariant-loop-j
invariant-loop-j l = KeepsWanted l.last (l.k + 1) l.fn.rows.items l.rows.items
