-- The counts that the passes make are those of the demands.
use Rattle.std.proofs.Common.{◌≡◌, ℕ, ◌+◌, ◌<◌, Bool, true, false, cond, List, [], ◌∷◌, map, sym, ap, ◌∙◌, refl, subst, ⊎_elim, arith}
use Rattle.std.specs.Prelude.{sum_by, slice_index_or, nat_lt, All}
use Rattle.std.proofs.lemmas.Bool.{cases_Bool, and_parts, cond-true, cond-false, false≢true}
use Rattle.std.proofs.lemmas.List.Sums.{sum_by-cons}
use Rattle.ps_model.specs.declared.kind.Kind.{Kind}
use Rattle.ps_model.specs.declared.kind.Ty.{Ty}
use Rattle.ps_model.specs.declared.kind.Ty.TheVariants.{Safe, Bool as Plain, Time}
use Rattle.ps_model.specs.declared.demands.Need.{Need}
use Rattle.ps_model.specs.declared.demands.Need.TheVariants.{On, Off}
use Rattle.ps_model.specs.Formula.{Formula, Formulas, signal, all_of, any_of, no_operand, operand}
use Rattle.ps_model.specs.Action.{Actual, free, literal, time, wired}
use Rattle.ps_model.specs.Demand.{demand as pin_formula}
use Rattle.ps_model.specs.Network.{Network, input_count, signal_count, is_new}
use Rattle.ps_model.specs.Scanning.{pin_at}
use Rattle.ps_model.specs.Typing.{safe, each_safe, is_safe_signal, is_safe_type, MayStand}
use Rattle.ps_model.specs.Values.{IsBelow, AreBelow, values_at_pin}
use Rattle.ps_demand.specs.Requirement.{Requirement, always, now, before, not_now, not_before, part, requirements, leaf_count, leaf_counts}
use Rattle.ps_demand.specs.Demand.{constant, conjunction, demand_over, safe_demands, all_demands, demand_at_pin, negated_signal, negated_at_pin, demand_of_need, output_demand, demand_read}
use Rattle.ps_demand.specs.Passes.{saturated, weight, safe_weights, all_weights, weight_at_pin, weight_of_need, weight_of_needs, output_weight}

-- sums of numbers that saturate alike
sums_saturate : (a b c d : ℕ) → saturated a ≡ saturated b → saturated c ≡ saturated d → saturated (a + c) ≡ saturated (b + d)
sums_saturate a b c d h g = omega arith

constant_leaf : (b : Bool) → leaf_count (constant b) ≡ 1
constant_leaf true = refl
constant_leaf false = refl

module _ (net : Network) (k : ℕ) (counts : ℕ → ℕ) (leaves : ℕ → Requirement)
    (right : (s : ℕ) → s < signal_count net → is_safe_signal net s ≡ true → counts s ≡ saturated (leaf_count (leaves s))) where
  mutual
    pub weight_is : (e : Formula) → IsBelow (signal_count net) e → safe net e ≡ true → saturated (weight net counts e) ≡ saturated (leaf_count (demand_over net leaves e))
    weight_is (signal s) below is = let same = right s below is in omega arith
    weight_is (all_of es) below is = safe_weights_are es below
    weight_is (any_of es) below is = all_weights_are es below is

    safe_weights_are : (es : Formulas) → AreBelow (signal_count net) es → saturated (safe_weights net counts es) ≡ saturated (leaf_counts (safe_demands net leaves es))
    safe_weights_are no_operand below = refl
    safe_weights_are (operand e es) below =
        ⊎_elim
        (λ is. ap saturated (cond-true (safe net e) (weight net counts e + safe_weights net counts es) (safe_weights net counts es) is)
        ∙ sums_saturate (weight net counts e) (leaf_count (demand_over net leaves e)) (safe_weights net counts es) (leaf_counts (safe_demands net leaves es))
        (weight_is e below.0 is) (safe_weights_are es below.1)
        ∙ ap (λ ds. saturated (leaf_counts ds)) (sym (cond-true (safe net e) (part (demand_over net leaves e) (safe_demands net leaves es)) (safe_demands net leaves es) is)))
        (λ plain. ap saturated (cond-false (safe net e) (weight net counts e + safe_weights net counts es) (safe_weights net counts es) plain)
        ∙ safe_weights_are es below.1
        ∙ ap (λ ds. saturated (leaf_counts ds)) (sym (cond-false (safe net e) (part (demand_over net leaves e) (safe_demands net leaves es)) (safe_demands net leaves es) plain)))
        (cases_Bool (safe net e))

    all_weights_are : (es : Formulas) → AreBelow (signal_count net) es → each_safe net es ≡ true → saturated (all_weights net counts es) ≡ saturated (leaf_counts (all_demands net leaves es))
    all_weights_are no_operand below is = refl
    all_weights_are (operand e es) below is =
        let both = and_parts (safe net e) (each_safe net es) is in
        sums_saturate (weight net counts e) (leaf_count (demand_over net leaves e)) (all_weights net counts es) (leaf_counts (all_demands net leaves es))
        (weight_is e below.0 both.0) (all_weights_are es below.1 both.1)

  pin_weight_is : (default : Bool) (a : Actual) → All (IsBelow (signal_count net)) (values_at_pin a) → MayStand net Safe a →
      saturated (weight_at_pin net counts a) ≡ saturated (leaf_count (demand_at_pin net leaves default a))
  pin_weight_is default free below may = ap saturated (sym (constant_leaf default))
  pin_weight_is default (literal b) below may = ap saturated (sym (constant_leaf b))
  pin_weight_is default (time t) below may = refl
  pin_weight_is default (wired e) below may = weight_is e (below 0 e (omega arith)) (may.1 refl)

  negated_leaf : (s : ℕ) → leaf_count (negated_signal net k s) ≡ 1
  negated_leaf s =
      let later = cond (is_new net k s) always (not_before s) in
      ⊎_elim
      (λ input. ap leaf_count (cond-true (nat_lt s (input_count net)) (not_now s) later input))
      (λ other. ap leaf_count (cond-false (nat_lt s (input_count net)) (not_now s) later other)
      ∙ ⊎_elim
      (λ driven. ap leaf_count (cond-true (is_new net k s) always (not_before s) driven))
      (λ old_one. ap leaf_count (cond-false (is_new net k s) always (not_before s) old_one))
      (cases_Bool (is_new net k s)))
      (cases_Bool (nat_lt s (input_count net)))

  negated_pin_leaf : (default : Bool) (a : Actual) → leaf_count (negated_at_pin net k default a) ≡ 1
  negated_pin_leaf true free = refl
  negated_pin_leaf false free = refl
  negated_pin_leaf default (literal true) = refl
  negated_pin_leaf default (literal false) = refl
  negated_pin_leaf default (time t) = refl
  negated_pin_leaf default (wired (signal s)) = negated_leaf s
  negated_pin_leaf default (wired (all_of es)) = refl
  negated_pin_leaf default (wired (any_of es)) = refl

  module _ (kind : Kind) (args : List Actual)
      (below : (p : ℕ) → All (IsBelow (signal_count net)) (values_at_pin (slice_index_or args p free)))
      (may : (p : ℕ) → MayStand net (pin_at kind p).ty (slice_index_or args p free)) where
    safe_type : (ty : Ty) → is_safe_type ty ≡ true → ty ≡ Safe
    safe_type Safe h = refl
    safe_type Plain h = absurd (false≢true h)
    safe_type Time h = absurd (false≢true h)

    need_weight_is : (need : Need) → saturated (weight_of_need net counts kind args need) ≡ saturated (leaf_count (demand_of_need net k leaves kind args need))
    need_weight_is (On p) =
        let pin = pin_at kind p in
        let there = slice_index_or args p free in
        let it = demand_at_pin net leaves pin.free there in
        ⊎_elim
        (λ is. ap saturated (cond-true (is_safe_type pin.ty) (weight_at_pin net counts there) 1 is)
        ∙ pin_weight_is pin.free there (below p) (let M : Ty → Type 0 = λ ty. MayStand net ty there in subst M (safe_type pin.ty is) (may p))
        ∙ ap (λ d. saturated (leaf_count d)) (sym (cond-true (is_safe_type pin.ty) it always is)))
        (λ plain. ap saturated (cond-false (is_safe_type pin.ty) (weight_at_pin net counts there) 1 plain)
        ∙ ap (λ d. saturated (leaf_count d)) (sym (cond-false (is_safe_type pin.ty) it always plain)))
        (cases_Bool (is_safe_type pin.ty))
    need_weight_is (Off p) = ap saturated (sym (negated_pin_leaf (pin_at kind p).free (slice_index_or args p free)))

    needs_sum : (needs : List Need) → saturated (sum_by (weight_of_need net counts kind args) needs) ≡ saturated (leaf_counts (requirements (map (demand_of_need net k leaves kind args) needs)))
    needs_sum [] = refl
    needs_sum (n ∷ ns) =
        ap saturated (sum_by-cons (weight_of_need net counts kind args) n ns)
        ∙ sums_saturate (weight_of_need net counts kind args n) (leaf_count (demand_of_need net k leaves kind args n))
        (sum_by (weight_of_need net counts kind args) ns) (leaf_counts (requirements (map (demand_of_need net k leaves kind args) ns)))
        (need_weight_is n) (needs_sum ns)

    needs_weight_is : (needs : List Need) → saturated (weight_of_needs net counts kind args needs) ≡ saturated (leaf_count (conjunction (map (demand_of_need net k leaves kind args) needs)))
    needs_weight_is [] = refl
    needs_weight_is (n ∷ []) = (let alone = sum_by-cons (weight_of_need net counts kind args) n [] in let e : sum_by (weight_of_need net counts kind args) (n ∷ []) ≡ weight_of_need net counts kind args n = omega arith in ap saturated e) ∙ need_weight_is n
    needs_weight_is (n ∷ m ∷ ns) = needs_sum (n ∷ m ∷ ns)

    pub output_weight_is : (j : ℕ) → saturated (output_weight net counts kind args j) ≡ saturated (leaf_count (output_demand net k leaves kind args j))
    output_weight_is j = needs_weight_is (pin_formula kind j)

-- before the first step every demand is one leaf
pub first_leaf : (net : Network) (s : ℕ) → leaf_count (demand_read net 0 s) ≡ 1
first_leaf net s =
    ⊎_elim
    (λ input. ap leaf_count (cond-true (nat_lt s (input_count net)) (now s) (before s) input))
    (λ other. ap leaf_count (cond-false (nat_lt s (input_count net)) (now s) (before s) other))
    (cases_Bool (nat_lt s (input_count net)))
