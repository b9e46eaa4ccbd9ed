use Rattle.std.proofs.Common.{◌≡◌, ◌+◌, ◌≤◌, length, drop}
use Rattle.std.specs.List.{flat_map, list_all}
use Rattle.ps_base.specs.declared.limits.TheConstants.{MOST_NODES}
use Rattle.ps_model.specs.Nodes.{nodes_of_step}
use Rattle.ps_model.specs.Obligations.{obligations, obligations_from}
use Rattle.ps_checker.specs.Marks.{is_marked}
use Rattle.ps_checker.proofs.covering.all_covered.Given as goal

abbrev pub invariant-loop-k : goal.invariant-loop-k
invariant-loop-k l = record {
  place : l.node + length (flat_map nodes_of_step (drop l.k l.app.steps)) ≤ MOST_NODES;
  covered : list_all (is_marked l.marks) (obligations l.app) ≡ list_all (is_marked l.marks) (obligations_from l.app l.node (drop l.k l.app.steps));
}
