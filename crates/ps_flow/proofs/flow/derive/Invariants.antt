use Rattle.std.proofs.Common.{◌≡◌, ◌+◌, ◌≤◌, ◌<◌, ◌++◌, ℕ, Some, length, drop}
use Rattle.std.specs.Prelude.{slice_get}
use Rattle.std.specs.List.{flat_map}
use Rattle.ps_model.specs.Action.{Action}
use Rattle.ps_base.specs.declared.limits.TheConstants.{MOST_NODES}
use Rattle.ps_model.specs.Nodes.{nodes_of_step}
use Rattle.ps_model.specs.Obligations.{obligations_from}
use Rattle.ps_flow.specs.Derivation.{derivations, certificate}
use Rattle.ps_flow.specs.Refusals.{FitsStep}
use Rattle.ps_flow.proofs.flow.derive.Given as goal

-- the lines of the steps that are left are still to be written
abbrev pub invariant-loop-k : goal.invariant-loop-k
invariant-loop-k l = record {
  fits : (k : ℕ) → (a : Action) → k < l.k → slice_get l.app.steps k ≡ Some a → FitsStep l.app a;
  place : l.node + length (flat_map nodes_of_step (drop l.k l.app.steps)) ≤ MOST_NODES;
  room : length l.cert + length (flat_map nodes_of_step (drop l.k l.app.steps)) ≤ MOST_NODES;
  lines : l.cert ++ derivations l.app (length l.cert) (obligations_from l.app l.node (drop l.k l.app.steps)) ≡ certificate l.app;
}
