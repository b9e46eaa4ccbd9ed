use Rattle.std.proofs.Common.{◌≡◌, ◌+◌, ◌<◌, ◌++◌, ◌&&◌, ◌||◌, true, false, cond, [], length, map, drop, take}
use Rattle.ps_model.specs.Exprs.{formula, operands}
use Rattle.ps_base.specs.declared.limits.TheConstants.{MOST_NODES}
use Rattle.ps_model.specs.Nodes.{nodes_below}
use Rattle.ps_model.specs.Network.{signal_count}
use Rattle.ps_model.specs.Values.{AreBelow}
use Rattle.ps_model.specs.Typing.{some_safe, each_safe}
use Rattle.ps_flow.specs.Derivation.{of_first_safe, of_each, last_lines}
use Rattle.ps_flow.proofs.flow.+value.Given as goal

-- the operands that are left decide, unless one was safe
abbrev pub invariant-derive_first-loop-x : goal.invariant-derive_first-loop-x
invariant-derive_first-loop-x l = record {
  below : AreBelow (signal_count l.app) (operands (map formula (drop l.x-index l.all)));
  room : length l.cert + length (nodes_below (operands (map formula (drop l.x-index l.all)))) < MOST_NODES;
  place : l.after + length (nodes_below (operands (map formula (drop l.x-index l.all)))) ≡ l.node + length (nodes_below (operands (map formula l.all)));
  decided : some_safe l.app (operands (map formula l.all)) ≡ (l.safe || some_safe l.app (operands (map formula (drop l.x-index l.all))));
  lines : l.cert ≡ l.initial.cert ++ cond l.safe (of_first_safe l.app (length l.initial.cert) l.node (operands (map formula l.all))) [];
  rest : l.safe ≡ false →
      of_first_safe l.app (length l.initial.cert) l.node (operands (map formula l.all))
      ≡ of_first_safe l.app (length l.initial.cert) l.after (operands (map formula (drop l.x-index l.all)));
}

-- the lines of the operands that are left are still to be written, unless one was not safe
abbrev pub invariant-derive_each-loop-x : goal.invariant-derive_each-loop-x
invariant-derive_each-loop-x l = record {
  below : AreBelow (signal_count l.app) (operands (map formula (drop l.x-index l.all)));
  room : length l.cert + length (nodes_below (operands (map formula (drop l.x-index l.all)))) < MOST_NODES;
  place : l.after + length (nodes_below (operands (map formula (drop l.x-index l.all)))) ≡ l.node + length (nodes_below (operands (map formula l.all)));
  decided : each_safe l.app (operands (map formula l.all)) ≡ (l.all_safe && each_safe l.app (operands (map formula (drop l.x-index l.all))));
  kept : take (length l.initial.cert) l.cert ≡ l.initial.cert;
  lines : l.all_safe ≡ true →
      l.cert ++ of_each l.app (length l.cert) l.after (operands (map formula (drop l.x-index l.all)))
      ≡ l.initial.cert ++ of_each l.app (length l.initial.cert) l.node (operands (map formula l.all));
  premises : l.all_safe ≡ true →
      l.premises ++ last_lines l.app (length l.cert) l.after (operands (map formula (drop l.x-index l.all)))
      ≡ l.initial.premises ++ last_lines l.app (length l.initial.cert) l.node (operands (map formula l.all));
}
