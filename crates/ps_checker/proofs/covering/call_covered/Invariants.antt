use Rattle.std.proofs.Common.{◌≡◌, ◌+◌, length, drop}
use Rattle.std.specs.List.{flat_map, list_all}
use Rattle.ps_model.specs.Blocks.{block}
use Rattle.ps_model.specs.Network.{kind_at}
use Rattle.ps_model.specs.Nodes.{nodes_at_pin}
use Rattle.ps_model.specs.Obligations.{obligations_at_pins}
use Rattle.ps_checker.specs.Marks.{is_marked}
use Rattle.ps_checker.proofs.covering.call_covered.Given as goal

abbrev pub invariant-loop-j : goal.invariant-loop-j
invariant-loop-j l = record {
  place : l.at + length (flat_map nodes_at_pin (drop l.j l.args)) ≡ l.node + length (flat_map nodes_at_pin l.args);
  covered : list_all (is_marked l.marks) (obligations_at_pins l.node (block (kind_at l.app l.i)).inputs l.args)
      ≡ list_all (is_marked l.marks) (obligations_at_pins l.at (drop l.j (block (kind_at l.app l.i)).inputs) (drop l.j l.args));
}
