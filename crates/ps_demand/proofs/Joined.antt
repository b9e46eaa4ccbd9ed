-- AND and OR as one operation, and what a list of parts says under it.
use Rattle.std.proofs.Common.{◌≡◌, Bool, true, false, List, [], ◌∷◌, ◌++◌, ap, sym, ◌∙◌, refl}
use Rattle.std.specs.Prelude.{not, ◌&&◌, ◌||◌, flat_map}
use Rattle.ps_model.specs.Scanning.{State}
use Rattle.ps_demand.specs.declared.join.Join.{Join}
use Rattle.ps_demand.specs.declared.join.Join.TheVariants.{And, Or}
use Rattle.ps_demand.specs.Requirement.{Requirement, Requirements, always, never, now, before, not_now, not_before, group, no_part, part, requirements, parts, holds}
use Rattle.ps_demand.specs.Slim.{neutral, deciding, parts_within}

abbrev pub op : Join → Bool → Bool → Bool
op And a b = a && b
op Or a b = a || b

-- what holds where there is no part
abbrev pub unit : Join → Bool
unit And = true
unit Or = false

pub op_assoc : (j : Join) (a b c : Bool) → op j (op j a b) c ≡ op j a (op j b c)
op_assoc And true b c = refl
op_assoc And false b c = refl
op_assoc Or true b c = refl
op_assoc Or false b c = refl

pub op_unit : (j : Join) (a : Bool) → op j a (unit j) ≡ a
op_unit And true = refl
op_unit And false = refl
op_unit Or true = refl
op_unit Or false = refl

pub unit_op : (j : Join) (a : Bool) → op j (unit j) a ≡ a
unit_op And a = refl
unit_op Or a = refl

pub op_again : (j : Join) (a b : Bool) → op j (op j a b) a ≡ op j a b
op_again And true true = refl
op_again And true false = refl
op_again And false b = refl
op_again Or true b = refl
op_again Or false true = refl
op_again Or false false = refl

-- what decides alone decides, on either side
pub decides_left : (j : Join) (a : Bool) → op j (not (unit j)) a ≡ not (unit j)
decides_left And a = refl
decides_left Or a = refl

pub decides_right : (j : Join) (a : Bool) → op j a (not (unit j)) ≡ not (unit j)
decides_right And true = refl
decides_right And false = refl
decides_right Or true = refl
decides_right Or false = refl

module _ (ins : List Bool) (old : State) where
  abbrev holding : Requirement → Bool
  holding d = holds ins old d

  -- what a list of parts says
  abbrev pub held : Join → List Requirement → Bool
  held j [] = unit j
  held j (d ∷ ds) = op j (holding d) (held j ds)

  pub group_holds : (j : Join) (ds : Requirements) → holding (group j ds) ≡ held j (parts ds)
  group_holds And no_part = refl
  group_holds And (part d ds) = ap (λ b. holding d && b) (group_holds And ds)
  group_holds Or no_part = refl
  group_holds Or (part d ds) = ap (λ b. holding d || b) (group_holds Or ds)

  pub listed_holds : (j : Join) (ds : List Requirement) → holding (group j (requirements ds)) ≡ held j ds
  listed_holds And [] = refl
  listed_holds And (d ∷ ds) = ap (λ b. holding d && b) (listed_holds And ds)
  listed_holds Or [] = refl
  listed_holds Or (d ∷ ds) = ap (λ b. holding d || b) (listed_holds Or ds)

  pub held-append : (j : Join) (ds es : List Requirement) → held j (ds ++ es) ≡ op j (held j ds) (held j es)
  held-append j [] es = sym (unit_op j (held j es))
  held-append j (d ∷ ds) es = ap (op j (holding d)) (held-append j ds es) ∙ sym (op_assoc j (holding d) (held j ds) (held j es))

  pub held_within : (j : Join) (d : Requirement) → held j (parts_within j d) ≡ holding d
  held_within And (group And ds) = sym (group_holds And ds)
  held_within Or (group Or ds) = sym (group_holds Or ds)
  held_within And (group Or ds) = op_unit And (holding (group Or ds))
  held_within Or (group And ds) = op_unit Or (holding (group And ds))
  held_within And always = refl
  held_within And never = refl
  held_within And (now s) = op_unit And (holding (now s))
  held_within And (before s) = op_unit And (holding (before s))
  held_within And (not_now s) = op_unit And (holding (not_now s))
  held_within And (not_before s) = op_unit And (holding (not_before s))
  held_within Or always = refl
  held_within Or never = refl
  held_within Or (now s) = op_unit Or (holding (now s))
  held_within Or (before s) = op_unit Or (holding (before s))
  held_within Or (not_now s) = op_unit Or (holding (not_now s))
  held_within Or (not_before s) = op_unit Or (holding (not_before s))

  pub held_flat : (j : Join) (ds : List Requirement) → held j (flat_map (parts_within j) ds) ≡ held j ds
  held_flat j [] = refl
  held_flat j (d ∷ ds) =
      held-append j (parts_within j d) (flat_map (parts_within j) ds)
      ∙ ap (λ b. op j b (held j (flat_map (parts_within j) ds))) (held_within j d)
      ∙ ap (op j (holding d)) (held_flat j ds)

  pub neutral_holds : (j : Join) → holding (neutral j) ≡ unit j
  neutral_holds And = refl
  neutral_holds Or = refl

  pub deciding_holds : (j : Join) → holding (deciding j) ≡ not (unit j)
  deciding_holds And = refl
  deciding_holds Or = refl
