use Rattle.std.proofs.Common.{◌≡◌, map, drop, length}
use Rattle.ps_demand.specs.Requirement.{requirements, same_parts}
use Rattle.ps_demand.specs.Views.{requirement}
use Rattle.ps_demand.proofs.demand.+same.Given as goal

abbrev pub decreases-are_same : goal.decreases-are_same
decreases-are_same l = goal.size-are_same l

abbrev pub decreases-is_same : goal.decreases-is_same
decreases-is_same l = goal.size-is_same l

-- the parts that are left decide
abbrev pub invariant-are_same-loop-i : goal.invariant-are_same-loop-i
invariant-are_same-loop-i l = record {
  long : length l.part-items ≡ length l.fn.others.items.items;
  left : same_parts (requirements (map requirement l.fn.parts.items.items)) (requirements (map requirement l.fn.others.items.items))
      ≡ same_parts (requirements (map requirement (drop l.i l.part-items))) (requirements (map requirement (drop l.i l.fn.others.items.items)));
}
