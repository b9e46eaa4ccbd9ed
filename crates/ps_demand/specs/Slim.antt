-- Requirements without what says nothing, and without what is said twice.
use Rattle.std.specs.Prelude.{◌||◌, List, [], ◌∷◌, ◌++◌, if◌then◌else◌, flat_map}
use Rattle.std.specs.List.{list_any}
use Rattle.ps_demand.specs.declared.join.Join.{Join}
use Rattle.ps_demand.specs.declared.join.Join.TheVariants.{And, Or}
use Rattle.ps_demand.specs.Requirement.{Requirement, Requirements, always, never, now, before, not_now, not_before}
use Rattle.ps_demand.specs.Requirement.{group, no_part, part, requirements, parts, same}

-- what says nothing as a part: TRUE in a conjunction, FALSE in a disjunction
abbrev pub neutral : Join → Requirement
neutral And = always
neutral Or = never

-- what decides alone as a part: FALSE in a conjunction, TRUE in a disjunction
abbrev pub deciding : Join → Requirement
deciding And = never
deciding Or = always

-- what stands in the place of a part: the parts of a part of the same sort, and else the part itself
abbrev pub parts_within : Join → Requirement → List Requirement
parts_within And (group And ds) = parts ds
parts_within Or (group Or ds) = parts ds
parts_within join d = d ∷ []

-- of these parts, in order, those that say something and equal no earlier one, where these came earlier
abbrev pub telling : Join → (earlier : List Requirement) → List Requirement → List Requirement
telling join earlier [] = []
telling join earlier (d ∷ ds) =
    if same d (neutral join) || list_any (same d) earlier then telling join earlier ds
    else d ∷ telling join (earlier ++ d ∷ []) ds

-- the parts as one: what says nothing where there is none, and the part itself where there is one
abbrev pub gathered : Join → List Requirement → Requirement
gathered join [] = neutral join
gathered join (d ∷ []) = d
gathered join (d ∷ e ∷ ds) = group join (requirements (d ∷ e ∷ ds))

-- parts none of which is of the same sort, made slim
abbrev pub slim_of_parts : Join → List Requirement → Requirement
slim_of_parts join ds = if list_any (same (deciding join)) ds then deciding join else gathered join (telling join [] ds)

-- slim parts joined, made slim
abbrev pub joined : Join → List Requirement → Requirement
joined join ds = slim_of_parts join (flat_map (parts_within join) ds)

abbrev mutual
  -- a requirement made slim
  pub slim : Requirement → Requirement
  slim always = always
  slim never = never
  slim (now s) = now s
  slim (before s) = before s
  slim (not_now s) = not_now s
  slim (not_before s) = not_before s
  slim (group join ds) = joined join (slim_parts ds)

  -- the parts made slim, in order
  pub slim_parts : Requirements → List Requirement
  slim_parts no_part = []
  slim_parts (part d ds) = slim d ∷ slim_parts ds
