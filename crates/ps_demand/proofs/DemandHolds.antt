-- A safe value is TRUE only where its demand holds.
use Rattle.std.proofs.Common.{◌≡◌, ℕ, suc, zero, ◌+◌, ◌-◌, ◌≤◌, ◌<◌, Bool, true, false, cond, List, [], ◌∷◌, length, map, Some, sym, ap, ◌∙◌, refl, ⊎_elim, subst, arith}
use Rattle.std.specs.Prelude.{slice_get, slice_index_or, nat_lt, nat_le, ◌==◌, not}
use Rattle.std.specs.List.{list_all}
use Rattle.std.proofs.lemmas.Bool.{false≢true, cases_Bool, or_cases, or_left, or_right, or_from, and_parts, and_from, cond-true, cond-false, eqb-true, leb-true, ltb-true}
use Rattle.ps_model.specs.declared.kind.Kind.{Kind}
use Rattle.ps_model.specs.declared.kind.Ty.{Ty}
use Rattle.ps_model.specs.declared.kind.Ty.TheVariants.{Safe, Bool as Plain, Time}
use Rattle.ps_model.specs.declared.demands.Need.{Need}
use Rattle.ps_model.specs.declared.demands.Need.TheVariants.{On, Off}
use Rattle.ps_model.specs.Formula.{Formula, Formulas, signal, all_of, any_of, no_operand, operand, value, all_true, any_true}
use Rattle.ps_model.specs.Action.{Actual, Action, free, literal, time, wired, assigns, calls}
use Rattle.ps_model.specs.Blocks.{moved, output_count, safe_output, next, conditions}
use Rattle.ps_model.specs.BlockLaws.{EachDemands}
use Rattle.ps_model.specs.Demand.{demand as pin_formula, is_met, are_met}
use Rattle.ps_model.specs.Network.{Network, input_count, kind_at, first_pin, drives, is_new}
use Rattle.ps_model.specs.Scanning.{State, Solves, signal_in, block_in, read_at, pin_at, pin_value, pins_under, limit_of}
use Rattle.ps_model.specs.Sound.{IsSound}
use Rattle.ps_model.specs.Typing.{Accepted, MayStand, safe, is_safe_signal, is_safe_type, each_safe}
use Rattle.ps_model.proofs.Once.{element_at}
use Rattle.ps_model.proofs.OneSolution.{new_after_step, not_more}
use Rattle.ps_demand.specs.Requirement.{Requirement, now, before, always, not_now, not_before, part, requirements, holds, all_hold, some_hold}
use Rattle.ps_demand.specs.Demand.{constant, conjunction, demand_over, safe_demands, all_demands, demand_at_pin, negated_signal, negated_at_pin, demand_of_need, output_demand, after_step, demand_read, demand_at}
use Rattle.ps_demand.proofs.CallFacts.{may_stand}
use Rattle.ps_demand.proofs.SafeOutputs.{safe_below, safe_shown}

pub constant_holds : (ins : List Bool) (old : State) (b : Bool) → holds ins old (constant b) ≡ b
constant_holds ins old true = refl
constant_holds ins old false = refl

module _ (net : Network) (k : ℕ) (ins : List Bool) (old : State) (v : ℕ → Bool) (leaves : ℕ → Requirement)
    (leaf : (s : ℕ) → is_safe_signal net s ≡ true → v s ≡ true → holds ins old (leaves s) ≡ true) where
  mutual
    pub over_leaves : (e : Formula) → safe net e ≡ true → value v e ≡ true → holds ins old (demand_over net leaves e) ≡ true
    over_leaves (signal s) is h = leaf s is h
    over_leaves (all_of es) is h = over_all es h
    over_leaves (any_of es) is h = over_some es is h

    over_all : (es : Formulas) → all_true v es ≡ true → all_hold ins old (safe_demands net leaves es) ≡ true
    over_all no_operand h = refl
    over_all (operand e es) h =
        let both = and_parts (value v e) (all_true v es) h in
        ⊎_elim
        (λ is. ap (all_hold ins old) (cond-true (safe net e) (part (demand_over net leaves e) (safe_demands net leaves es)) (safe_demands net leaves es) is)
        ∙ and_from (holds ins old (demand_over net leaves e)) (all_hold ins old (safe_demands net leaves es)) (over_leaves e is both.0) (over_all es both.1))
        (λ plain. ap (all_hold ins old) (cond-false (safe net e) (part (demand_over net leaves e) (safe_demands net leaves es)) (safe_demands net leaves es) plain)
        ∙ over_all es both.1)
        (cases_Bool (safe net e))

    over_some : (es : Formulas) → each_safe net es ≡ true → any_true v es ≡ true → some_hold ins old (all_demands net leaves es) ≡ true
    over_some no_operand is h = h
    over_some (operand e es) is h =
        let both = and_parts (safe net e) (each_safe net es) is in
        ⊎_elim
        (λ y. or_left (holds ins old (demand_over net leaves e)) (some_hold ins old (all_demands net leaves es)) (over_leaves e both.0 y))
        (λ y. or_right (holds ins old (demand_over net leaves e)) (some_hold ins old (all_demands net leaves es)) (over_some es both.1 y))
        (or_cases (value v e) (any_true v es) h)

  -- a SAFEBOOL pin is TRUE only where what stands there has its demand
  pin_holds : (default : Bool) (a : Actual) → MayStand net Safe a → pin_value v default a ≡ true → holds ins old (demand_at_pin net leaves default a) ≡ true
  pin_holds default free may h = constant_holds ins old default ∙ h
  pin_holds default (literal b) may h = constant_holds ins old b ∙ h
  pin_holds default (time t) may h = absurd (false≢true h)
  pin_holds default (wired e) may h = over_leaves e (may.1 refl) h

  -- a pin is FALSE only where its negation holds, or is given up
  negated_holds : ((s : ℕ) → not (v s) ≡ true → holds ins old (negated_signal net k s) ≡ true) →
      (default : Bool) (a : Actual) → not (pin_value v default a) ≡ true → holds ins old (negated_at_pin net k default a) ≡ true
  negated_holds off default free h = constant_holds ins old (not default) ∙ h
  negated_holds off default (literal b) h = constant_holds ins old (not b) ∙ h
  negated_holds off default (time t) h = refl
  negated_holds off default (wired (signal s)) h = off s h
  negated_holds off default (wired (all_of es)) h = refl
  negated_holds off default (wired (any_of es)) h = refl

  module _ (kind : Kind) (args : List Actual)
      (off : (s : ℕ) → not (v s) ≡ true → holds ins old (negated_signal net k s) ≡ true)
      (may : (p : ℕ) → MayStand net (pin_at kind p).ty (slice_index_or args p free)) where
    safe_type : (ty : Ty) → is_safe_type ty ≡ true → ty ≡ Safe
    safe_type Safe h = refl
    safe_type Plain h = absurd (false≢true h)
    safe_type Time h = absurd (false≢true h)

    need_holds : (need : Need) → is_met (pins_under v kind args) need ≡ true → holds ins old (demand_of_need net k leaves kind args need) ≡ true
    need_holds (On p) h =
        let pin = pin_at kind p in
        let there = demand_at_pin net leaves pin.free (slice_index_or args p free) in
        ⊎_elim
        (λ is. ap (holds ins old) (cond-true (is_safe_type pin.ty) there always is)
        ∙ pin_holds pin.free (slice_index_or args p free) (let M : Ty → Type 0 = λ ty. MayStand net ty (slice_index_or args p free) in subst M (safe_type pin.ty is) (may p)) h)
        (λ plain. ap (holds ins old) (cond-false (is_safe_type pin.ty) there always plain))
        (cases_Bool (is_safe_type pin.ty))
    need_holds (Off p) h = negated_holds off (pin_at kind p).free (slice_index_or args p free) h

    each_holds : (needs : List Need) → are_met (pins_under v kind args) needs ≡ true →
        all_hold ins old (requirements (map (demand_of_need net k leaves kind args) needs)) ≡ true
    each_holds [] h = refl
    each_holds (n ∷ ns) h =
        let both = and_parts (is_met (pins_under v kind args) n) (list_all (is_met (pins_under v kind args)) ns) h in
        and_from (holds ins old (demand_of_need net k leaves kind args n)) (all_hold ins old (requirements (map (demand_of_need net k leaves kind args) ns)))
        (need_holds n both.0) (each_holds ns both.1)

    -- where the formula of a block is met, the demand of its output holds
    pub needs_hold : (needs : List Need) → are_met (pins_under v kind args) needs ≡ true →
        holds ins old (conjunction (map (demand_of_need net k leaves kind args) needs)) ≡ true
    needs_hold [] h = refl
    needs_hold (n ∷ []) h = need_holds n (and_parts (is_met (pins_under v kind args) n) true h).0
    needs_hold (n ∷ m ∷ ns) h = each_holds (n ∷ m ∷ ns) h

-- the state of a block after a step is that of its table
moved_code : (kind : Kind) (limit : ℕ) (pins : ℕ → Bool) (dt : ℕ) (s : _) → (moved kind limit pins dt s).code ≡ next kind s.code (conditions kind limit pins dt s)
unfolding moved
moved_code kind limit pins dt s = refl

module _ (net : Network) (sound : IsSound net) (accepted : Accepted net) (demands : EachDemands) (old : State) (ins : List Bool) (dt : ℕ) (new : State) (solves : Solves net old ins dt new) where
  driven_now : (k : ℕ) (a : Action) → slice_get net.steps k ≡ Some a → (s : ℕ) → drives net s a ≡ true → read_at net old new (suc k) s ≡ signal_in new s
  driven_now k a at s h =
      cond-true (is_new net (suc k) s) (signal_in new s) (signal_in old s) (new_after_step net k s a at ∙ or_right (is_new net k s) (drives net s a) h)

  undriven_as_before : (k : ℕ) (a : Action) → slice_get net.steps k ≡ Some a → (s : ℕ) → drives net s a ≡ false →
      read_at net old new (suc k) s ≡ read_at net old new k s
  undriven_as_before k a at s h =
      ap (λ b. cond b (signal_in new s) (signal_in old s)) (new_after_step net k s a at ∙ not_more (is_new net k s) (drives net s a) h)

  -- a signal that is FALSE has its negation, where that is kept
  off_holds : (k : ℕ) (leaves : ℕ → Requirement) (s : ℕ) → not (read_at net old new k s) ≡ true → holds ins old (negated_signal net k s) ≡ true
  off_holds k leaves s h =
      let later = cond (is_new net k s) always (not_before s) in
      ⊎_elim
      (λ input. ap (holds ins old) (cond-true (nat_lt s (input_count net)) (not_now s) later input)
      ∙ ap not (sym (solves.inputs s (ltb-true s (input_count net) input))
      ∙ sym (cond-true (is_new net k s) (signal_in new s) (signal_in old s) (or_left (nat_lt s (input_count net)) _ input))) ∙ h)
      (λ other. ap (holds ins old) (cond-false (nat_lt s (input_count net)) (not_now s) later other)
      ∙ ⊎_elim
      (λ driven. ap (holds ins old) (cond-true (is_new net k s) always (not_before s) driven))
      (λ old_one. ap (holds ins old) (cond-false (is_new net k s) always (not_before s) old_one)
      ∙ ap not (sym (cond-false (is_new net k s) (signal_in new s) (signal_in old s) old_one)) ∙ h)
      (cases_Bool (is_new net k s)))
      (cases_Bool (nat_lt s (input_count net)))

  -- an output of a called instance that is TRUE has its demand
  output_holds : (k i s : ℕ) (args : List Actual) → slice_get net.steps k ≡ Some (calls i args) → drives net s (calls i args) ≡ true → is_safe_signal net s ≡ true →
      ((x : ℕ) → is_safe_signal net x ≡ true → read_at net old new k x ≡ true → holds ins old (demand_read net k x) ≡ true) →
      signal_in new s ≡ true → holds ins old (output_demand net k (demand_read net k) (kind_at net i) args (s - first_pin net i)) ≡ true
  output_holds k i s args at here is earlier y =
      let kind = kind_at net i in
      let first = first_pin net i in
      let both = and_parts (nat_le first s) (nat_lt s (first + output_count kind)) here in
      let low = leb-true first s both.0 in
      let high = ltb-true s (first + output_count kind) both.1 in
      let j = s - first in
      let place : s ≡ first + j = omega arith in
      let inside = sound.instances k i args at in
      let below : j < output_count kind = omega arith in
      let small = safe_below net sound i j inside below (ap (is_safe_signal net) (sym place) ∙ is) in
      let v = read_at net old new k in
      let limit = limit_of kind args in
      let pins = pins_under v kind args in
      let then = block_in old i in
      let after = block_in new i in
      let shown : safe_output kind after.code after.mode j ≡ true =
      sym (safe_shown kind after.code after.mode j small) ∙ sym (solves.pin_outputs i j inside below) ∙ ap (signal_in new) (sym place) ∙ y in
      let code : after.code ≡ next kind then.code (conditions kind limit pins dt then) =
      ap (λ b. b.code) (solves.called k i args at) ∙ moved_code kind limit pins dt then in
      needs_hold net k ins old v (demand_read net k) earlier kind args (off_holds k (demand_read net k)) (may_stand net accepted k i args at) (pin_formula kind j)
      (demands kind then.code after.mode j (conditions kind limit pins dt then) (ap (λ q. safe_output kind q after.mode j) (sym code) ∙ shown))

  -- one step
  step_holds : (k : ℕ) (a : Action) → slice_get net.steps k ≡ Some a → (s : ℕ) → is_safe_signal net s ≡ true →
      ((x : ℕ) → is_safe_signal net x ≡ true → read_at net old new k x ≡ true → holds ins old (demand_read net k x) ≡ true) →
      read_at net old new (suc k) s ≡ true → holds ins old (after_step net k (Some a) (demand_read net k) s) ≡ true
  step_holds k (assigns t e) at s is earlier y =
      ⊎_elim
      (λ here. ap (holds ins old) (cond-true (t == s) (demand_over net (demand_read net k) e) (demand_read net k s) here)
      ∙ over_leaves net k ins old (read_at net old new k) (demand_read net k) earlier e
      (accepted.assigned k t e at (ap (is_safe_signal net) (eqb-true t s here) ∙ is))
      (sym (solves.assigned k t e at) ∙ ap (signal_in new) (eqb-true t s here) ∙ sym (driven_now k (assigns t e) at s here) ∙ y))
      (λ other. ap (holds ins old) (cond-false (t == s) (demand_over net (demand_read net k) e) (demand_read net k s) other)
      ∙ earlier s is (sym (undriven_as_before k (assigns t e) at s other) ∙ y))
      (cases_Bool (t == s))
  step_holds k (calls i args) at s is earlier y =
      let its_own = output_demand net k (demand_read net k) (kind_at net i) args (s - first_pin net i) in
      ⊎_elim
      (λ here. ap (holds ins old) (cond-true (drives net s (calls i args)) its_own (demand_read net k s) here)
      ∙ output_holds k i s args at here is earlier (sym (driven_now k (calls i args) at s here) ∙ y))
      (λ other. ap (holds ins old) (cond-false (drives net s (calls i args)) its_own (demand_read net k s) other)
      ∙ earlier s is (sym (undriven_as_before k (calls i args) at s other) ∙ y))
      (cases_Bool (drives net s (calls i args)))

  -- a safe signal as step k reads it is TRUE only where its demand holds
  pub read_holds : (k : ℕ) → k ≤ length net.steps → (s : ℕ) → is_safe_signal net s ≡ true → read_at net old new k s ≡ true → holds ins old (demand_read net k s) ≡ true
  read_holds zero h s is y =
      ⊎_elim
      (λ input. ap (holds ins old) (cond-true (nat_lt s (input_count net)) (now s) (before s) input)
      ∙ sym (solves.inputs s (ltb-true s (input_count net) input))
      ∙ sym (cond-true (is_new net 0 s) (signal_in new s) (signal_in old s) (or_left (nat_lt s (input_count net)) false input)) ∙ y)
      (λ other. ap (holds ins old) (cond-false (nat_lt s (input_count net)) (now s) (before s) other)
      ∙ sym (cond-false (is_new net 0 s) (signal_in new s) (signal_in old s) (or_from (nat_lt s (input_count net)) false other refl)) ∙ y)
      (cases_Bool (nat_lt s (input_count net)))
  read_holds (suc k) h s is y =
      let here = element_at net.steps k (omega arith) in
      ap (λ o. holds ins old (after_step net k o (demand_read net k) s)) here.1
      ∙ step_holds k here.0 here.1 s is (read_holds k (omega arith)) y

  pub value_holds : (k : ℕ) (e : Formula) → k ≤ length net.steps → safe net e ≡ true → value (read_at net old new k) e ≡ true → holds ins old (demand_at net k e) ≡ true
  value_holds k e h is y = over_leaves net k ins old (read_at net old new k) (demand_read net k) (read_holds k h) e is y
