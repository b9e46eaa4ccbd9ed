use Rattle.std.proofs.Common.{◌≡◌, ◌++◌, drop, map}
use Rattle.ps_model.specs.Exprs.{formula, operands}
use Rattle.ps_cover.specs.Covering.{point_of}
use Rattle.ps_cover.specs.Listing.{decision_points, points_below, root_points}
use Rattle.ps_cover.proofs.listing.+push_decisions.Given as goal

abbrev pub decreases-push_decisions : goal.decreases-push_decisions
decreases-push_decisions l = goal.size-push_decisions l

-- what was listed, and what is listed of the operands that are left
abbrev pub invariant-loop-x : goal.invariant-loop-x
invariant-loop-x l = record {
  whole : decision_points l.fn.step (formula l.fn.e)
      ≡ root_points l.fn.step (formula l.fn.e) ++ points_below l.fn.step (operands (map formula l.x-items));
  written : map point_of l.points.items ++ points_below l.fn.step (operands (map formula (drop l.x-index l.x-items)))
      ≡ map point_of l.fn.points.items ++ (root_points l.fn.step (formula l.fn.e) ++ points_below l.fn.step (operands (map formula l.x-items)));
}
