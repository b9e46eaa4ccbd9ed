use Rattle.std.proofs.Common.{◌≡◌, ◌+◌, ◌*◌, ◌≤◌, ◌++◌, length, map, drop}
use Rattle.std.specs.Prelude.{flat_map}
use Rattle.ps_model.specs.Exprs.{formula, operands}
use Rattle.ps_model.specs.Network.{signal_count}
use Rattle.ps_model.specs.Nodes.{nodes, nodes_below}
use Rattle.ps_model.specs.Values.{AreBelow}
use Rattle.ps_demand.specs.declared.join.Join.TheVariants.{And, Or}
use Rattle.ps_demand.specs.Passes.{safe_slims, all_slims, kept_for}
use Rattle.ps_demand.specs.Slim.{parts_within}
use Rattle.ps_demand.specs.Views.{requirement}
use Rattle.ps_demand.proofs.slimming.+slim.Given as goal

abbrev pub decreases-slim_value : goal.decreases-slim_value
decreases-slim_value l = 2 * length (nodes (formula l.e.now))

abbrev pub decreases-slim_conjunction : goal.decreases-slim_conjunction
decreases-slim_conjunction l = 2 * length (nodes_below (operands (map formula l.all.now))) + 1

abbrev pub decreases-slim_disjunction : goal.decreases-slim_disjunction
decreases-slim_disjunction l = 2 * length (nodes_below (operands (map formula l.all.now))) + 1

-- the parts so far, and those of the operands that are left, make the whole
abbrev pub invariant-slim_conjunction-loop-x : goal.invariant-slim_conjunction-loop-x
invariant-slim_conjunction-loop-x l = record {
  whole : map requirement l.parts.items
      ++ flat_map (parts_within And) (safe_slims l.app (kept_for l.rows) (operands (map formula (drop l.x-index l.all))))
      ≡ flat_map (parts_within And) (safe_slims l.app (kept_for l.rows) (operands (map formula l.all)));
  few : length (nodes_below (operands (map formula (drop l.x-index l.all)))) ≤ length (nodes_below (operands (map formula l.all)));
  below : AreBelow (signal_count l.app) (operands (map formula (drop l.x-index l.all)));
}

abbrev pub invariant-slim_disjunction-loop-x : goal.invariant-slim_disjunction-loop-x
invariant-slim_disjunction-loop-x l = record {
  whole : map requirement l.parts.items
      ++ flat_map (parts_within Or) (all_slims l.app (kept_for l.rows) (operands (map formula (drop l.x-index l.all))))
      ≡ flat_map (parts_within Or) (all_slims l.app (kept_for l.rows) (operands (map formula l.all)));
  few : length (nodes_below (operands (map formula (drop l.x-index l.all)))) ≤ length (nodes_below (operands (map formula l.all)));
  below : AreBelow (signal_count l.app) (operands (map formula (drop l.x-index l.all)));
}
