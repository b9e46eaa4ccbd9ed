use Rattle.std.proofs.Common.{◌≡◌, ◌+◌, ◌≤◌, ◌++◌, length, drop}
use Rattle.std.specs.List.{flat_map}
use Rattle.ps_model.specs.Blocks.{block}
use Rattle.ps_model.specs.Network.{kind_at}
use Rattle.ps_base.specs.declared.limits.TheConstants.{MOST_NODES}
use Rattle.ps_model.specs.Nodes.{nodes_at_pin}
use Rattle.ps_model.specs.Obligations.{obligations_at_pins}
use Rattle.ps_flow.specs.Derivation.{derivations}
use Rattle.ps_flow.specs.Refusals.{FitsUpTo}
use Rattle.ps_flow.proofs.flow.derive_pins.Given as goal

-- the lines of the pins that are left are still to be written
abbrev pub invariant-loop-j : goal.invariant-loop-j
invariant-loop-j l = record {
  fits : FitsUpTo l.app l.j l.i l.args;
  place : l.after + length (flat_map nodes_at_pin (drop l.j l.args)) ≡ l.node + length (flat_map nodes_at_pin l.args);
  room : length l.cert + length (flat_map nodes_at_pin (drop l.j l.args)) ≤ MOST_NODES;
  lines : l.cert ++ derivations l.app (length l.cert) (obligations_at_pins l.after (drop l.j (block (kind_at l.app l.i)).inputs) (drop l.j l.args))
      ≡ l.initial.cert ++ derivations l.app (length l.initial.cert) (obligations_at_pins l.node (block (kind_at l.app l.i)).inputs l.args);
}
