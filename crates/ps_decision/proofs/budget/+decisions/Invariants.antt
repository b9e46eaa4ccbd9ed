use Rattle.std.proofs.Common.{◌≡◌, ◌+◌, ◌^◌, ◌<◌, map, drop}
use Rattle.ps_model.specs.Exprs.{formula, operands}
use Rattle.ps_decision.specs.Budget.{decisions, decisions_below}
use Rattle.ps_decision.proofs.budget.+decisions.Given as goal

abbrev pub decreases-decisions : goal.decreases-decisions
decreases-decisions l = goal.size-decisions l

abbrev pub invariant-loop-x : goal.invariant-loop-x
invariant-loop-x l = record {
  whole : decisions (formula l.fn.e) ≡ decisions_below (operands (map formula l.x-items));
  small : decisions_below (operands (map formula l.x-items)) < 2 ^ 32;
  counted : l.below + decisions_below (operands (map formula (drop l.x-index l.x-items))) ≡ decisions_below (operands (map formula l.x-items));
}
