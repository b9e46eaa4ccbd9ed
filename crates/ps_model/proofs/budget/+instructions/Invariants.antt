use Rattle.std.proofs.Common.{◌≡◌, ◌+◌, ◌-◌, ◌≤◌, length, map, drop}
use Rattle.ps_model.specs.Exprs.{formula, operands}
use Rattle.ps_model.specs.Nodes.{nodes_below}
use Rattle.ps_model.specs.Budgets.{instructions, joined}
use Rattle.ps_model.proofs.budget.+instructions.Given as goal

abbrev pub decreases-instructions : goal.decreases-instructions
decreases-instructions l = goal.size-instructions l

abbrev pub invariant-loop-x : goal.invariant-loop-x
invariant-loop-x l = record {
  code : instructions (formula l.fn.e) ≡ joined (operands (map formula l.x-items)) - 1;
  room : length (nodes_below (operands (map formula (drop l.x-index l.x-items)))) ≤ 20000;
  all : length (nodes_below (operands (map formula l.x-items))) ≤ 20000;
  counted : l.joined + joined (operands (map formula (drop l.x-index l.x-items))) ≡ joined (operands (map formula l.x-items));
}
