-- What is slim of slim parts is slim of the demand.
use Rattle.std.proofs.Common.{◌≡◌, ℕ, ◌+◌, ◌≤◌, ◌<◌, Bool, true, false, cond, List, [], ◌∷◌, map, sym, ap, ◌∙◌, refl, subst, ⊎_elim, arith}
use Rattle.std.specs.Prelude.{slice_index_or, nat_lt, All}
use Rattle.std.specs.List.{list_any}
use Rattle.std.proofs.lemmas.Bool.{cases_Bool, and_parts, or_left, or_right, cond-true, cond-false, false≢true, eq-eqb}
use Rattle.ps_model.specs.declared.kind.Kind.{Kind}
use Rattle.ps_model.specs.declared.kind.Ty.{Ty}
use Rattle.ps_model.specs.declared.kind.Ty.TheVariants.{Safe, Bool as Plain, Time}
use Rattle.ps_model.specs.declared.demands.Need.{Need}
use Rattle.ps_model.specs.declared.demands.Need.TheVariants.{On, Off}
use Rattle.ps_model.specs.Formula.{Formula, Formulas, signal, all_of, any_of, no_operand, operand}
use Rattle.ps_model.specs.Action.{Actual, free, literal, time, wired}
use Rattle.ps_model.specs.Demand.{demand as pin_formula}
use Rattle.ps_model.specs.Network.{Network, input_count, signal_count, is_new}
use Rattle.ps_model.specs.Scanning.{pin_at}
use Rattle.ps_model.specs.Typing.{safe, each_safe, is_safe_signal, is_safe_type, MayStand}
use Rattle.ps_model.specs.Values.{IsBelow, AreBelow, reads, some_reads, values_at_pin}
use Rattle.ps_demand.specs.declared.demand.TheConstants.{MOST_LEAVES}
use Rattle.ps_demand.specs.declared.join.Join.TheVariants.{And, Or}
use Rattle.ps_demand.specs.Requirement.{Requirement, always, not_now, not_before, part, requirements, leaf_count, leaf_counts}
use Rattle.ps_demand.specs.Demand.{constant, conjunction, demand_over, safe_demands, all_demands, demand_at_pin, negated_signal, negated_at_pin, demand_of_need, output_demand}
use Rattle.ps_demand.specs.Slim.{joined, slim, slim_parts}
use Rattle.ps_demand.specs.Passes.{slim_over, safe_slims, all_slims, slim_at_pin, slim_of_need, slim_together, slim_output}

constant_slim : (b : Bool) → slim (constant b) ≡ constant b
constant_slim true = refl
constant_slim false = refl

negated_slim : (net : Network) (k s : ℕ) → slim (negated_signal net k s) ≡ negated_signal net k s
negated_slim net k s =
    let input = nat_lt s (input_count net) in
    let later = cond (is_new net k s) always (not_before s) in
    ⊎_elim
    (λ yes. let e = cond-true input (not_now s) later yes in ap slim e ∙ sym e)
    (λ no.
    let e = cond-false input (not_now s) later no in
    ⊎_elim
    (λ driven. let f = e ∙ cond-true (is_new net k s) always (not_before s) driven in ap slim f ∙ sym f)
    (λ old_one. let f = e ∙ cond-false (is_new net k s) always (not_before s) old_one in ap slim f ∙ sym f)
    (cases_Bool (is_new net k s)))
    (cases_Bool input)

negated_pin_slim : (net : Network) (k : ℕ) (default : Bool) (a : Actual) → slim (negated_at_pin net k default a) ≡ negated_at_pin net k default a
negated_pin_slim net k true free = refl
negated_pin_slim net k false free = refl
negated_pin_slim net k default (literal true) = refl
negated_pin_slim net k default (literal false) = refl
negated_pin_slim net k default (time t) = refl
negated_pin_slim net k default (wired (signal s)) = negated_slim net k s
negated_pin_slim net k default (wired (all_of es)) = refl
negated_pin_slim net k default (wired (any_of es)) = refl

-- W says of which signals a slim demand is kept
module _ (net : Network) (k : ℕ) (kept leaves : ℕ → Requirement) (W : ℕ → Type 0)
    (right : (s : ℕ) → s < signal_count net → is_safe_signal net s ≡ true → W s → leaf_count (leaves s) ≤ MOST_LEAVES → kept s ≡ slim (leaves s)) where
  mutual
    pub slim_is : (e : Formula) → IsBelow (signal_count net) e → ((s : ℕ) → s < signal_count net → reads s e ≡ true → W s) → safe net e ≡ true →
        leaf_count (demand_over net leaves e) ≤ MOST_LEAVES → slim_over net kept e ≡ slim (demand_over net leaves e)
    slim_is (signal s) below read is few = right s below is (read s below (eq-eqb s s refl)) few
    slim_is (all_of es) below read is few = ap (joined And) (safe_slims_are es below read few)
    slim_is (any_of es) below read is few = ap (joined Or) (all_slims_are es below read is few)

    safe_slims_are : (es : Formulas) → AreBelow (signal_count net) es → ((s : ℕ) → s < signal_count net → some_reads s es ≡ true → W s) →
        leaf_counts (safe_demands net leaves es) ≤ MOST_LEAVES → safe_slims net kept es ≡ slim_parts (safe_demands net leaves es)
    safe_slims_are no_operand below read few = refl
    safe_slims_are (operand e es) below read few =
        let it = demand_over net leaves e in
        let rest = safe_demands net leaves es in
        let read_rest = λ (s : ℕ) (inside : s < signal_count net) (h : some_reads s es ≡ true). read s inside (or_right (reads s e) (some_reads s es) h) in
        ⊎_elim
        (λ is.
        let whole = cond-true (safe net e) (part it rest) rest is in
        let both : leaf_count it + leaf_counts rest ≤ MOST_LEAVES = subst (λ ds. leaf_counts ds ≤ MOST_LEAVES) whole few in
        cond-true (safe net e) (slim_over net kept e ∷ safe_slims net kept es) (safe_slims net kept es) is
        ∙ ap (λ d. d ∷ safe_slims net kept es) (slim_is e below.0 (λ s inside h. read s inside (or_left (reads s e) (some_reads s es) h)) is (omega arith))
        ∙ ap (λ ds. slim it ∷ ds) (safe_slims_are es below.1 read_rest (omega arith))
        ∙ ap slim_parts (sym whole))
        (λ plain.
        let whole = cond-false (safe net e) (part it rest) rest plain in
        cond-false (safe net e) (slim_over net kept e ∷ safe_slims net kept es) (safe_slims net kept es) plain
        ∙ safe_slims_are es below.1 read_rest (subst (λ ds. leaf_counts ds ≤ MOST_LEAVES) whole few)
        ∙ ap slim_parts (sym whole))
        (cases_Bool (safe net e))

    all_slims_are : (es : Formulas) → AreBelow (signal_count net) es → ((s : ℕ) → s < signal_count net → some_reads s es ≡ true → W s) →
        each_safe net es ≡ true → leaf_counts (all_demands net leaves es) ≤ MOST_LEAVES → all_slims net kept es ≡ slim_parts (all_demands net leaves es)
    all_slims_are no_operand below read is few = refl
    all_slims_are (operand e es) below read is few =
        let both = and_parts (safe net e) (each_safe net es) is in
        ap (λ d. d ∷ all_slims net kept es)
        (slim_is e below.0 (λ s inside h. read s inside (or_left (reads s e) (some_reads s es) h)) both.0 (omega arith))
        ∙ ap (λ ds. slim (demand_over net leaves e) ∷ ds)
        (all_slims_are es below.1 (λ s inside h. read s inside (or_right (reads s e) (some_reads s es) h)) both.1 (omega arith))

  pin_slim_is : (default : Bool) (a : Actual) → All (IsBelow (signal_count net)) (values_at_pin a) →
      ((s : ℕ) → s < signal_count net → list_any (reads s) (values_at_pin a) ≡ true → W s) → MayStand net Safe a →
      leaf_count (demand_at_pin net leaves default a) ≤ MOST_LEAVES → slim_at_pin net kept default a ≡ slim (demand_at_pin net leaves default a)
  pin_slim_is default free below read may few = sym (constant_slim default)
  pin_slim_is default (literal b) below read may few = sym (constant_slim b)
  pin_slim_is default (time t) below read may few = refl
  pin_slim_is default (wired e) below read may few =
      slim_is e (below 0 e (omega arith)) (λ s inside h. read s inside (or_left (reads s e) false h)) (may.1 refl) few

  module _ (kind : Kind) (args : List Actual)
      (below : (p : ℕ) → All (IsBelow (signal_count net)) (values_at_pin (slice_index_or args p free)))
      (read : (p s : ℕ) → s < signal_count net → list_any (reads s) (values_at_pin (slice_index_or args p free)) ≡ true → W s)
      (may : (p : ℕ) → MayStand net (pin_at kind p).ty (slice_index_or args p free)) where
    safe_type : (ty : Ty) → is_safe_type ty ≡ true → ty ≡ Safe
    safe_type Safe h = refl
    safe_type Plain h = absurd (false≢true h)
    safe_type Time h = absurd (false≢true h)

    need_slim_is : (need : Need) → leaf_count (demand_of_need net k leaves kind args need) ≤ MOST_LEAVES →
        slim_of_need net k kept kind args need ≡ slim (demand_of_need net k leaves kind args need)
    need_slim_is (On p) few =
        let pin = pin_at kind p in
        let there = slice_index_or args p free in
        let it = demand_at_pin net leaves pin.free there in
        ⊎_elim
        (λ is.
        let whole = cond-true (is_safe_type pin.ty) it always is in
        cond-true (is_safe_type pin.ty) (slim_at_pin net kept pin.free there) always is
        ∙ pin_slim_is pin.free there (below p) (read p) (let M : Ty → Type 0 = λ ty. MayStand net ty there in subst M (safe_type pin.ty is) (may p))
        (subst (λ d. leaf_count d ≤ MOST_LEAVES) whole few)
        ∙ ap slim (sym whole))
        (λ plain.
        cond-false (is_safe_type pin.ty) (slim_at_pin net kept pin.free there) always plain
        ∙ ap slim (sym (cond-false (is_safe_type pin.ty) it always plain)))
        (cases_Bool (is_safe_type pin.ty))
    need_slim_is (Off p) few = sym (negated_pin_slim net k (pin_at kind p).free (slice_index_or args p free))

    needs_slim_are : (needs : List Need) → leaf_counts (requirements (map (demand_of_need net k leaves kind args) needs)) ≤ MOST_LEAVES →
        map (slim_of_need net k kept kind args) needs ≡ slim_parts (requirements (map (demand_of_need net k leaves kind args) needs))
    needs_slim_are [] few = refl
    needs_slim_are (n ∷ ns) few =
        ap (λ d. d ∷ map (slim_of_need net k kept kind args) ns) (need_slim_is n (omega arith))
        ∙ ap (λ ds. slim (demand_of_need net k leaves kind args n) ∷ ds) (needs_slim_are ns (omega arith))

    together_slim_is : (needs : List Need) → leaf_count (conjunction (map (demand_of_need net k leaves kind args) needs)) ≤ MOST_LEAVES →
        slim_together (map (slim_of_need net k kept kind args) needs) ≡ slim (conjunction (map (demand_of_need net k leaves kind args) needs))
    together_slim_is [] few = refl
    together_slim_is (n ∷ []) few = need_slim_is n few
    together_slim_is (n ∷ m ∷ ns) few = ap (joined And) (needs_slim_are (n ∷ m ∷ ns) few)

    pub output_slim_is : (j : ℕ) → leaf_count (output_demand net k leaves kind args j) ≤ MOST_LEAVES →
        slim_output net k kept kind args j ≡ slim (output_demand net k leaves kind args j)
    output_slim_is j few = together_slim_is (pin_formula kind j) few
