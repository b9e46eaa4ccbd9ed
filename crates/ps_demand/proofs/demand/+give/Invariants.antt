use Rattle.std.proofs.Common.{◌≡◌, map, drop}
use Rattle.std.specs.Prelude.{fold}
use Rattle.ps_demand.specs.Hashing.{hashed_parts}
use Rattle.ps_demand.specs.Requirement.{requirements}
use Rattle.ps_demand.specs.Views.{requirement}
use Rattle.ps_demand.proofs.demand.+give.Given as goal

abbrev pub decreases-give : goal.decreases-give
decreases-give g l = goal.size-give g l

abbrev pub decreases-give_parts : goal.decreases-give_parts
decreases-give_parts g l = goal.size-give_parts g l

-- what was given, and what the parts that are left give, is the whole
abbrev pub invariant-give_parts-loop-part : goal.invariant-give_parts-loop-part
invariant-give_parts-loop-part g l =
    fold g.H.Hasher.write l.state (hashed_parts (requirements (map requirement (drop l.part-index l.part-items))))
    ≡ fold g.H.Hasher.write l.fn.state (hashed_parts (requirements (map requirement l.fn.parts.items.items)))
