-- What the rows decide makes the step of a block whose timer step_is down.
use Rattle.std.proofs.Common.{◌≡◌, ℕ, ◌+◌, ◌*◌, ◌<◌, ◌^◌, Bool, true, false, cond, refl, sym, ap, ◌∙◌, ⊎_elim, ◌&&◌, Some, None, arith}
use Rattle.std.specs.Prelude.{◌==◌, not, bit_and, nat_lt}
use Rattle.std.specs.List.{list_any, range_with_len}
use Rattle.std.proofs.lemmas.Bool.{and_parts, cases_Bool, cond-true, cond-false, eqb-true, ltb-true}
use Rattle.std.proofs.lemmas.Option.{same_Some}
use Rattle.ps_model.specs.declared.kind.Kind.{Kind}
use Rattle.ps_model.specs.declared.kind.Kind.TheVariants.{Equivalent, Antivalent, EmergencyStop, Espe, ModeSelector, TwoHandTwo, TwoHandThree, GuardMonitoring, GuardLocking, EnableSwitch, SafetyRequest, OutControl, Edm}
use Rattle.ps_model.specs.Blocks.{block, next, latched, at_pin, lowest_on, mode_states}
use Rattle.ps_model.specs.Kept.{Kept, fresh, seen, runs_on, stepped}
use Rattle.ps_model.specs.Stored.{bit, is_state, is_last, is_mode, IsKept}
use Rattle.ps_rows.specs.Names.{names}
use Rattle.ps_rows.specs.Decision.{decision, action, latches}
use Rattle.ps_rows.specs.Counted.{mode_after}

timer_bit : (runs latch : Bool) → (bit_and (bit (not runs) + 2 * bit latch) 1 == 1) ≡ not runs
timer_bit true true = refl
timer_bit true false = refl
timer_bit false true = refl
timer_bit false false = refl

latch_bit : (runs latch : Bool) → (bit_and (bit (not runs) + 2 * bit latch) 2 == 2) ≡ latch
latch_bit true true = refl
latch_bit true false = refl
latch_bit false true = refl
latch_bit false false = refl

cond-not : (runs : Bool) (a b : ℕ) → cond (not runs) a b ≡ cond runs b a
cond-not true a b = refl
cond-not false a b = refl

same_pair : (x y : ℕ × ℕ) → Some x ≡ Some y → (x.0 ≡ y.0) × (x.1 ≡ y.1)
same_pair x y h = let e = same_Some x y h in (ap (λ (z : ℕ × ℕ). z.0) e, ap (λ (z : ℕ × ℕ). z.1) e)

none_some : (x : ℕ × ℕ) → None ≡ Some x → ⊥
none_some x h = cc

-- ---- The mode.
mode_selected : (from to : Bool) (lowest mode : ℕ) → cond (from && to) lowest (cond to mode 0) ≡ cond to (cond from lowest mode) 0
mode_selected true true lowest mode = refl
mode_selected true false lowest mode = refl
mode_selected false true lowest mode = refl
mode_selected false false lowest mode = refl

module _ (pins : ℕ → Bool) (q q' : ℕ) (mode : ℕ) (runs : Bool) where
  mode_is : (kind : Kind) → mode_after kind (bit (not runs) + 2 * bit (latches kind q q')) q' pins mode ≡ latched kind pins q q' mode
  unfolding latched
  mode_is Equivalent = refl
  mode_is Antivalent = refl
  mode_is EmergencyStop = refl
  mode_is Espe = refl
  mode_is ModeSelector =
      let to = list_any (λ x. x == q') mode_states in
      let lowest = lowest_on (range_with_len 0 8) pins in
      ap (λ b. cond b lowest (cond to mode 0)) (latch_bit runs (q == 0x8005 && to)) ∙ mode_selected (q == 0x8005) to lowest mode
  mode_is TwoHandTwo = refl
  mode_is TwoHandThree = refl
  mode_is GuardMonitoring = refl
  mode_is GuardLocking = refl
  mode_is EnableSwitch = refl
  mode_is SafetyRequest = refl
  mode_is OutControl = refl
  mode_is Edm = refl

zero_few : (mode : ℕ) → (mode == 0) ≡ true → mode < 8
zero_few mode h = let e = eqb-true mode 0 h in omega arith

selected_few : (b : Bool) (mode : ℕ) → cond b (nat_lt mode 8) (mode == 0) ≡ true → mode < 8
selected_few true mode h = ltb-true mode 8 h
selected_few false mode h = zero_few mode h

-- a latched mode is one of eight
pub few_modes : (kind : Kind) (q mode : ℕ) → is_mode kind q mode ≡ true → mode < 8
few_modes Equivalent q mode h = zero_few mode h
few_modes Antivalent q mode h = zero_few mode h
few_modes EmergencyStop q mode h = zero_few mode h
few_modes Espe q mode h = zero_few mode h
few_modes ModeSelector q mode h = selected_few (list_any (λ x. x == q) mode_states) mode h
few_modes TwoHandTwo q mode h = zero_few mode h
few_modes TwoHandThree q mode h = zero_few mode h
few_modes GuardMonitoring q mode h = zero_few mode h
few_modes GuardLocking q mode h = zero_few mode h
few_modes EnableSwitch q mode h = zero_few mode h
few_modes SafetyRequest q mode h = zero_few mode h
few_modes OutControl q mode h = zero_few mode h
few_modes Edm q mode h = zero_few mode h

-- Idle before the first step, of each kind.
zero_fits : 0 < 2 ^ 32
zero_fits = omega arith

pub fresh_kept : (kind : Kind) → IsKept kind fresh
unfolding block
fresh_kept Equivalent = record { state = refl; last_reset = refl; last_auxiliary = refl; mode = refl; timer = zero_fits }
fresh_kept Antivalent = record { state = refl; last_reset = refl; last_auxiliary = refl; mode = refl; timer = zero_fits }
fresh_kept EmergencyStop = record { state = refl; last_reset = refl; last_auxiliary = refl; mode = refl; timer = zero_fits }
fresh_kept Espe = record { state = refl; last_reset = refl; last_auxiliary = refl; mode = refl; timer = zero_fits }
fresh_kept ModeSelector = record { state = refl; last_reset = refl; last_auxiliary = refl; mode = refl; timer = zero_fits }
fresh_kept TwoHandTwo = record { state = refl; last_reset = refl; last_auxiliary = refl; mode = refl; timer = zero_fits }
fresh_kept TwoHandThree = record { state = refl; last_reset = refl; last_auxiliary = refl; mode = refl; timer = zero_fits }
fresh_kept GuardMonitoring = record { state = refl; last_reset = refl; last_auxiliary = refl; mode = refl; timer = zero_fits }
fresh_kept GuardLocking = record { state = refl; last_reset = refl; last_auxiliary = refl; mode = refl; timer = zero_fits }
fresh_kept EnableSwitch = record { state = refl; last_reset = refl; last_auxiliary = refl; mode = refl; timer = zero_fits }
fresh_kept SafetyRequest = record { state = refl; last_reset = refl; last_auxiliary = refl; mode = refl; timer = zero_fits }
fresh_kept OutControl = record { state = refl; last_reset = refl; last_auxiliary = refl; mode = refl; timer = zero_fits }
fresh_kept Edm = record { state = refl; last_reset = refl; last_auxiliary = refl; mode = refl; timer = zero_fits }

-- the named conditions read the last inputs and the mode alone
pub names_of_kept : (kind : Kind) (pins : ℕ → Bool) (elapsed : Bool) (k : Kept) →
    names kind pins elapsed (record { code = 0; last_reset = k.last_reset; last_auxiliary = k.last_auxiliary; mode = k.mode; timer = 0 }) ≡ names kind pins elapsed k
names_of_kept Equivalent pins elapsed k = refl
names_of_kept Antivalent pins elapsed k = refl
names_of_kept EmergencyStop pins elapsed k = refl
names_of_kept Espe pins elapsed k = refl
names_of_kept ModeSelector pins elapsed k = refl
names_of_kept TwoHandTwo pins elapsed k = refl
names_of_kept TwoHandThree pins elapsed k = refl
names_of_kept GuardMonitoring pins elapsed k = refl
names_of_kept GuardLocking pins elapsed k = refl
names_of_kept EnableSwitch pins elapsed k = refl
names_of_kept SafetyRequest pins elapsed k = refl
names_of_kept OutControl pins elapsed k = refl
names_of_kept Edm pins elapsed k = refl

-- ---- The step.
module _ (kind : Kind) (pins : ℕ → Bool) (limit left : ℕ) (k : Kept) where
  decision_is : is_state kind k.code ≡ true → decision kind k.code (seen kind pins (left == 0) k)
      ≡ Some (next kind k.code (seen kind pins (left == 0) k), action kind k.code (next kind k.code (seen kind pins (left == 0) k)) (seen kind pins (left == 0) k))
  decision_is is =
      let c = seen kind pins (left == 0) k in
      cond-true (is_state kind k.code) (Some (next kind k.code c, action kind k.code (next kind k.code c) c)) None is

  -- what is kept is in a state, and so the rows decide
  pub some_answer : is_state kind k.code ≡ true → None ≡ decision kind k.code (seen kind pins (left == 0) k) → ⊥
  some_answer is h = none_some _ (h ∙ decision_is is)

  -- and where they decide, the code is that of a state
  pub in_state : (x : ℕ × ℕ) → Some x ≡ decision kind k.code (seen kind pins (left == 0) k) → is_state kind k.code ≡ true
  in_state x h =
      let c = seen kind pins (left == 0) k in
      ⊎_elim (λ yes. yes)
      (λ no. absurd (none_some x (sym (h ∙ cond-false (is_state kind k.code) (Some (next kind k.code c, action kind k.code (next kind k.code c) c)) None no))))
      (cases_Bool (is_state kind k.code))

  -- it is kept where the last inputs and the mode are what the kind can keep, and the rows decide
  pub is_kept : (x : ℕ × ℕ) → (is_last (block kind).reset (bit k.last_reset) && is_last (block kind).auxiliary (bit k.last_auxiliary) && is_mode kind k.code k.mode) ≡ true →
      Some x ≡ decision kind k.code (seen kind pins (left == 0) k) → k.timer < 2 ^ 32 → IsKept kind k
  is_kept x fits h small =
      let both = and_parts (is_last (block kind).reset (bit k.last_reset) && is_last (block kind).auxiliary (bit k.last_auxiliary)) (is_mode kind k.code k.mode) fits in
      let lasts = and_parts (is_last (block kind).reset (bit k.last_reset)) (is_last (block kind).auxiliary (bit k.last_auxiliary)) both.0 in
      record { state = in_state x h; last_reset = lasts.0; last_auxiliary = lasts.1; mode = both.1; timer = small }

  pub step_is : (x : ℕ × ℕ) (mode timer : ℕ) → is_state kind k.code ≡ true → Some x ≡ decision kind k.code (seen kind pins (left == 0) k) →
      mode ≡ mode_after kind x.1 x.0 pins k.mode → timer ≡ cond (bit_and x.1 1 == 1) limit left →
      record { code = x.0; last_reset = at_pin (block kind).reset pins; last_auxiliary = at_pin (block kind).auxiliary pins; mode = mode; timer = timer }
      ≡ stepped kind pins (left == 0) limit left k
  step_is x mode timer is h mode_e timer_e =
      let c = seen kind pins (left == 0) k in
      let q' = next kind k.code c in
      let runs = runs_on kind k.code q' c in
      let latch = latches kind k.code q' in
      let e = same_pair x (q', action kind k.code q' c) (h ∙ decision_is is) in
      let t : timer ≡ cond runs left limit =
      timer_e ∙ ap (λ a. cond (bit_and a 1 == 1) limit left) e.1 ∙ ap (λ b. cond b limit left) (timer_bit runs latch) ∙ cond-not runs limit left in
      let m : mode ≡ latched kind pins k.code q' k.mode =
      mode_e
      ∙ ap (λ a. mode_after kind a x.0 pins k.mode) e.1
      ∙ ap (λ q. mode_after kind (action kind k.code q' c) q pins k.mode) e.0
      ∙ mode_is pins k.code q' k.mode runs kind in
      λ i. record { code = e.0 i; last_reset = at_pin (block kind).reset pins; last_auxiliary = at_pin (block kind).auxiliary pins; mode = m i; timer = t i }
