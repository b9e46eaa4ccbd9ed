-- A requirement made slim holds exactly where the requirement does.
use Rattle.std.proofs.Common.{◌≡◌, Bool, true, List, [], ◌∷◌, ◌++◌, ap, sym, ◌∙◌, refl, ⊎_elim}
use Rattle.std.specs.Prelude.{not, ◌||◌, flat_map}
use Rattle.std.specs.List.{list_any}
use Rattle.std.proofs.lemmas.Bool.{cases_Bool, or_cases, cond-true, cond-false}
use Rattle.ps_model.specs.Scanning.{State}
use Rattle.ps_demand.specs.declared.join.Join.{Join}
use Rattle.ps_demand.specs.Hashing.{same_equal}
use Rattle.ps_demand.specs.Requirement.{Requirement, Requirements, always, never, now, before, not_now, not_before, group, no_part, part, parts, holds, same}
use Rattle.ps_demand.specs.Slim.{neutral, deciding, parts_within, telling, gathered, slim_of_parts, slim, slim_parts}
use Rattle.ps_demand.proofs.Joined.{op, unit, op_assoc, op_unit, unit_op, op_again, decides_left, decides_right, held, group_holds, listed_holds, held-append, held_flat, neutral_holds, deciding_holds}

module _ (ins : List Bool) (old : State) where
  abbrev holding : Requirement → Bool
  holding d = holds ins old d

  abbrev held_by : Join → List Requirement → Bool
  held_by j ds = held ins old j ds

  gathered_holds : (j : Join) (ds : List Requirement) → holding (gathered j ds) ≡ held_by j ds
  gathered_holds j [] = neutral_holds ins old j
  gathered_holds j (d ∷ []) = sym (op_unit j (holding d))
  gathered_holds j (d ∷ e ∷ ds) = listed_holds ins old j (d ∷ e ∷ ds)

  -- where a part decides, it decides
  decided : (j : Join) (ds : List Requirement) → list_any (same (deciding j)) ds ≡ true → held_by j ds ≡ not (unit j)
  decided j (d ∷ ds) h =
      ⊎_elim
      (λ here. ap (λ b. op j b (held_by j ds)) (ap holding (sym (same_equal (deciding j) d here)) ∙ deciding_holds ins old j)
      ∙ decides_left j (held_by j ds))
      (λ later. ap (op j (holding d)) (decided j ds later) ∙ decides_right j (holding d))
      (or_cases (same (deciding j) d) (list_any (same (deciding j)) ds) h)
  decided j [] h = absurd (let no : ⊥ = cc in no)

  -- what was said already says nothing more
  said_before : (j : Join) (d : Requirement) (earlier : List Requirement) → list_any (same d) earlier ≡ true →
      op j (held_by j earlier) (holding d) ≡ held_by j earlier
  said_before j d [] h = absurd (let no : ⊥ = cc in no)
  said_before j d (e ∷ es) h =
      ⊎_elim
      (λ here. ap (op j (op j (holding e) (held_by j es))) (ap holding (same_equal d e here)) ∙ op_again j (holding e) (held_by j es))
      (λ later. op_assoc j (holding e) (held_by j es) (holding d) ∙ ap (op j (holding e)) (said_before j d es later))
      (or_cases (same d e) (list_any (same d) es) h)

  -- a part that says nothing, or nothing new, may be left out
  tells_nothing : (j : Join) (d : Requirement) (earlier : List Requirement) (rest : Bool) → (same d (neutral j) || list_any (same d) earlier) ≡ true →
      op j (held_by j earlier) (op j (holding d) rest) ≡ op j (held_by j earlier) rest
  tells_nothing j d earlier rest h =
      ⊎_elim
      (λ nothing. ap (λ b. op j (held_by j earlier) (op j b rest)) (ap holding (same_equal d (neutral j) nothing) ∙ neutral_holds ins old j)
      ∙ ap (op j (held_by j earlier)) (unit_op j rest))
      (λ again. sym (op_assoc j (held_by j earlier) (holding d) rest) ∙ ap (λ b. op j b rest) (said_before j d earlier again))
      (or_cases (same d (neutral j)) (list_any (same d) earlier) h)

  telling_holds : (j : Join) (earlier ds : List Requirement) →
      op j (held_by j earlier) (held_by j (telling j earlier ds)) ≡ op j (held_by j earlier) (held_by j ds)
  telling_holds j earlier [] = refl
  telling_holds j earlier (d ∷ ds) =
      let more = earlier ++ d ∷ [] in
      let silent = same d (neutral j) || list_any (same d) earlier in
      let said : held_by j more ≡ op j (held_by j earlier) (holding d) =
      held-append ins old j earlier (d ∷ []) ∙ ap (op j (held_by j earlier)) (op_unit j (holding d)) in
      ⊎_elim
      (λ nothing. ap (λ ds. op j (held_by j earlier) (held_by j ds)) (cond-true silent (telling j earlier ds) (d ∷ telling j more ds) nothing)
      ∙ telling_holds j earlier ds
      ∙ sym (tells_nothing j d earlier (held_by j ds) nothing))
      (λ new. ap (λ ds. op j (held_by j earlier) (held_by j ds)) (cond-false silent (telling j earlier ds) (d ∷ telling j more ds) new)
      ∙ sym (op_assoc j (held_by j earlier) (holding d) (held_by j (telling j more ds)))
      ∙ ap (λ b. op j b (held_by j (telling j more ds))) (sym said)
      ∙ telling_holds j more ds
      ∙ ap (λ b. op j b (held_by j ds)) said
      ∙ op_assoc j (held_by j earlier) (holding d) (held_by j ds))
      (cases_Bool silent)

  parts_hold : (j : Join) (ds : List Requirement) → holding (slim_of_parts j ds) ≡ held_by j ds
  parts_hold j ds =
      ⊎_elim
      (λ h. ap holding (cond-true (list_any (same (deciding j)) ds) (deciding j) (gathered j (telling j [] ds)) h)
      ∙ deciding_holds ins old j ∙ sym (decided j ds h))
      (λ h. ap holding (cond-false (list_any (same (deciding j)) ds) (deciding j) (gathered j (telling j [] ds)) h)
      ∙ gathered_holds j (telling j [] ds)
      ∙ sym (unit_op j (held_by j (telling j [] ds))) ∙ telling_holds j [] ds ∙ unit_op j (held_by j ds))
      (cases_Bool (list_any (same (deciding j)) ds))

  mutual
    pub slim_holds : (d : Requirement) → holding (slim d) ≡ holding d
    slim_holds always = refl
    slim_holds never = refl
    slim_holds (now s) = refl
    slim_holds (before s) = refl
    slim_holds (not_now s) = refl
    slim_holds (not_before s) = refl
    slim_holds (group j ds) =
        parts_hold j (flat_map (parts_within j) (slim_parts ds)) ∙ held_flat ins old j (slim_parts ds)
        ∙ slim_parts_hold j ds ∙ sym (group_holds ins old j ds)

    slim_parts_hold : (j : Join) (ds : Requirements) → held_by j (slim_parts ds) ≡ held_by j (parts ds)
    slim_parts_hold j no_part = refl
    slim_parts_hold j (part d ds) = ap (λ b. op j b (held_by j (slim_parts ds))) (slim_holds d) ∙ ap (op j (holding d)) (slim_parts_hold j ds)
