use Rattle.std.proofs.Common.{◌≡◌, ◌++◌, map, drop}
use Rattle.std.specs.Prelude.{nat_lt}
use Rattle.ps_demand.specs.Requirement.{requirements}
use Rattle.ps_demand.specs.Texts.{parts_text}
use Rattle.ps_demand.specs.Views.{requirement}
use Rattle.ps_demand.proofs.Writing.{left_text}
use Rattle.ps_demand.proofs.text.+write.Given as goal

abbrev pub decreases-write_demand : goal.decreases-write_demand
decreases-write_demand l = goal.size-write_demand l

abbrev pub decreases-write_parts : goal.decreases-write_parts
decreases-write_parts l = goal.size-write_parts l

-- what is written, and what is left, is the whole
abbrev pub invariant-write_parts-loop-i : goal.invariant-write_parts-loop-i
invariant-write_parts-loop-i l =
    l.bytes ++ left_text l.fn.app l.fn.join (nat_lt 0 l.i) (requirements (map requirement (drop l.i l.part-items)))
    ≡ l.fn.bytes ++ parts_text l.fn.app l.fn.join (requirements (map requirement l.fn.parts.items.items))
