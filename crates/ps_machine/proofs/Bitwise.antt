-- Pins as bits.
use Rattle.std.proofs.Common.{◌≡◌, ℕ, ◌+◌, ◌*◌, ◌%◌, ◌^◌, ◌<◌, ◌≤◌, Bool, true, false, cond, List, length, sym, ap, ◌∙◌, arith, ⊎_elim}
use Rattle.std.specs.Prelude.{nat_lt, ◌==◌}
use Rattle.std.specs.Int.{w32}
use Rattle.std.specs.Int.Bits.{bit_or}
use Rattle.std.proofs.lemmas.Nat.Bits.{bit_at_set_same, bit_at_set_other, bit_at-zero}
use Rattle.std.proofs.lemmas.Bool.{cond-true, cond-false, cases_lt, lt-ltb, le-ltb}
use Rattle.std.proofs.lemmas.List.{get_or_past}
use Rattle.ps_model.specs.declared.kind.Kind.{Kind}
use Rattle.ps_model.specs.declared.kind.Kind.TheVariants.{Equivalent, Antivalent, EmergencyStop, Espe, ModeSelector, TwoHandTwo, TwoHandThree, GuardMonitoring, GuardLocking, EnableSwitch, SafetyRequest, OutControl, Edm}
use Rattle.ps_model.specs.Blocks.{Pin, block}
use Rattle.ps_model.specs.Action.{Actual, free}
use Rattle.ps_model.specs.Scanning.{pin_at, no_pin, pin_value, pins_under}
use Rattle.ps_model.specs.PinBits.{pin_of}

-- a kind has at most 14 input pins
pub few_inputs : (kind : Kind) → length (block kind).inputs ≤ 14
unfolding block
few_inputs Equivalent = omega arith
few_inputs Antivalent = omega arith
few_inputs EmergencyStop = omega arith
few_inputs Espe = omega arith
few_inputs ModeSelector = omega arith
few_inputs TwoHandTwo = omega arith
few_inputs TwoHandThree = omega arith
few_inputs GuardMonitoring = omega arith
few_inputs GuardLocking = omega arith
few_inputs EnableSwitch = omega arith
few_inputs SafetyRequest = omega arith
few_inputs OutControl = omega arith
few_inputs Edm = omega arith

-- no pin is on at first
pub none_on : (k : ℕ) (f : ℕ → Bool) → pin_of 0 k ≡ cond (nat_lt k 0) (f k) false
none_on k f = ap (λ b. b == 1) (bit_at-zero k) ∙ sym (cond-false (nat_lt k 0) (f k) false (le-ltb k 0 (omega arith)))

module _ (f : ℕ → Bool) (bits j : ℕ) (earlier : (k : ℕ) → pin_of bits k ≡ cond (nat_lt k j) (f k) false) where
  -- with one more pin that is TRUE
  pub one_on : j < 32 → f j ≡ true → (k : ℕ) → pin_of (bit_or bits (1 * 2 ^ j % 2 ^ 32)) k ≡ cond (nat_lt k (j + 1)) (f k) false
  one_on small on k =
      ⊎_elim
      (λ below. ap (λ b. b == 1) (bit_at_set_other w32 bits j small k (λ e. absurd (omega (arith, e)))) ∙ earlier k
      ∙ cond-true (nat_lt k j) (f k) false (lt-ltb k j below)
      ∙ sym (cond-true (nat_lt k (j + 1)) (f k) false (lt-ltb k (j + 1) (omega arith))))
      (λ past. ⊎_elim
      (λ above. ap (λ b. b == 1) (bit_at_set_other w32 bits j small k (λ e. absurd (omega (arith, e)))) ∙ earlier k
      ∙ cond-false (nat_lt k j) (f k) false (le-ltb k j past)
      ∙ sym (cond-false (nat_lt k (j + 1)) (f k) false (le-ltb k (j + 1) (omega arith))))
      (λ at.
      let same : j ≡ k = omega arith in
      ap (λ n. pin_of (bit_or bits (1 * 2 ^ j % 2 ^ 32)) n) (sym same) ∙ ap (λ b. b == 1) (bit_at_set_same w32 bits j small)
      ∙ sym on ∙ ap f same ∙ sym (cond-true (nat_lt k (j + 1)) (f k) false (lt-ltb k (j + 1) (omega arith))))
      (cases_lt j k))
      (cases_lt k j)

  -- with one more pin that is FALSE
  pub one_off : f j ≡ false → (k : ℕ) → pin_of bits k ≡ cond (nat_lt k (j + 1)) (f k) false
  one_off off k =
      ⊎_elim
      (λ below. earlier k ∙ cond-true (nat_lt k j) (f k) false (lt-ltb k j below)
      ∙ sym (cond-true (nat_lt k (j + 1)) (f k) false (lt-ltb k (j + 1) (omega arith))))
      (λ past. ⊎_elim
      (λ above. earlier k ∙ cond-false (nat_lt k j) (f k) false (le-ltb k j past)
      ∙ sym (cond-false (nat_lt k (j + 1)) (f k) false (le-ltb k (j + 1) (omega arith))))
      (λ at.
      let same : j ≡ k = omega arith in
      earlier k ∙ cond-false (nat_lt k j) (f k) false (le-ltb k j past)
      ∙ sym off ∙ ap f same ∙ sym (cond-true (nat_lt k (j + 1)) (f k) false (lt-ltb k (j + 1) (omega arith))))
      (cases_lt j k))
      (cases_lt k j)

-- past the arguments no pin is TRUE
pub all_pins : (v : ℕ → Bool) (kind : Kind) (args : List Actual) (bits n : ℕ) → n ≡ length args → length args ≡ length (block kind).inputs →
    ((k : ℕ) → pin_of bits k ≡ cond (nat_lt k n) (pins_under v kind args k) false) →
    (k : ℕ) → pin_of bits k ≡ pins_under v kind args k
all_pins v kind args bits n end many each k =
    ⊎_elim
    (λ below. each k ∙ cond-true (nat_lt k n) (pins_under v kind args k) false (lt-ltb k n below))
    (λ past. each k ∙ cond-false (nat_lt k n) (pins_under v kind args k) false (le-ltb k n past)
    ∙ ap (λ (p : Pin). pin_value v p.free free) (sym (get_or_past (block kind).inputs k no_pin (omega arith)))
    ∙ ap (λ a. pin_value v (pin_at kind k).free a) (sym (get_or_past args k free (omega arith))))
    (cases_lt k n)
