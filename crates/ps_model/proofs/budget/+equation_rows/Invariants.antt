use Rattle.std.proofs.Common.{◌≡◌, ◌+◌, ◌≤◌, length, map, drop}
use Rattle.ps_model.specs.Exprs.{formula, operands}
use Rattle.ps_model.specs.Nodes.{nodes_below}
use Rattle.ps_model.specs.Budgets.{equation_rows, equation_rows_below}
use Rattle.ps_model.proofs.budget.+equation_rows.Given as goal

abbrev pub decreases-equation_rows : goal.decreases-equation_rows
decreases-equation_rows l = goal.size-equation_rows l

abbrev pub invariant-loop-x : goal.invariant-loop-x
invariant-loop-x l = record {
  code : equation_rows (formula l.fn.e) ≡ equation_rows_below (operands (map formula l.x-items));
  room : length (nodes_below (operands (map formula (drop l.x-index l.x-items)))) ≤ 20000;
  all : length (nodes_below (operands (map formula l.x-items))) ≤ 20000;
  counted : l.below + equation_rows_below (operands (map formula (drop l.x-index l.x-items))) ≡ equation_rows_below (operands (map formula l.x-items));
}
