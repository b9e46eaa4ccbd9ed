-- Pins by their bits.
use Rattle.std.proofs.Common.{◌≡◌, ℕ, zero, suc, ◌*◌, ◌^◌, ◌<◌, Bool, true, false, sym, ap, ◌∙◌, arith, not, Option, Some, None}
use Rattle.std.specs.Prelude.{◌==◌, ◌≢◌, bit_and, nat_le}
use Rattle.std.specs.Int.{bit_at}
use Rattle.std.specs.Int.Bits.{and_zero_r}
use Rattle.std.proofs.lemmas.Bool.{ne_eqb}
use Rattle.std.proofs.lemmas.Nat.{pow_pos}
use Rattle.std.proofs.lemmas.Nat.Bits.{and_pow, bit_at-lt}
use Rattle.ps_model.specs.Blocks.{at_pin}
use Rattle.ps_model.specs.Stored.{bit, is_last}
use Rattle.ps_model.specs.PinBits.{pin_of}
use Rattle.ps_rows.specs.Counted.{bit_of}

pow_some : (j : ℕ) → (2 ^ j == 0) ≡ false
pow_some j = let p = pow_pos j in let n : 2 ^ j ≢ 0 = omega (arith, p) in ne_eqb (2 ^ j) 0 n

-- a digit times a power is 0 where the digit is
digit_times : (b p : ℕ) → b < 2 → (p == 0) ≡ false → not (b * p == 0) ≡ (b == 1)
digit_times zero p h some = let e : 0 * p ≡ 0 = omega arith in ap (λ x. not (x == 0)) e
digit_times (suc zero) p h some = let e : 1 * p ≡ p = omega arith in ap (λ x. not (x == 0)) e ∙ ap not some
digit_times (suc (suc b)) p h some = absurd (omega arith)

-- the test of a pin by its bit
pub pin_test_is : (o : Option ℕ) (bits pin : ℕ) → pin ≡ bit_of o → not (bit_and bits pin == 0) ≡ at_pin o (pin_of bits)
pin_test_is None bits pin e = ap (λ x. not (bit_and bits x == 0)) e ∙ ap (λ x. not (x == 0)) (and_zero_r bits)
pin_test_is (Some j) bits pin e =
    ap (λ x. not (bit_and bits x == 0)) e
    ∙ ap (λ x. not (x == 0)) (and_pow bits j)
    ∙ digit_times (bit_at bits j) (2 ^ j) (bit_at-lt bits j) (pow_some j)

-- the last value of a pin that a kind may lack: FALSE, and TRUE
pub last_off : (o : Option ℕ) (last : Bool) → last ≡ false → not last ≡ is_last o (bit last)
last_off None last e = ap not e ∙ ap (λ b. bit b == 0) (sym e)
last_off (Some j) last e = ap not e ∙ ap (λ b. nat_le (bit b) 1) (sym e)

pub last_on : (o : Option ℕ) (last : Bool) (pin : ℕ) → last ≡ true → pin ≡ bit_of o → not (pin == 0) ≡ is_last o (bit last)
last_on None last pin on e = ap (λ x. not (x == 0)) e ∙ ap (λ b. bit b == 0) (sym on)
last_on (Some j) last pin on e = ap (λ x. not (x == 0)) e ∙ ap not (pow_some j) ∙ ap (λ b. nat_le (bit b) 1) (sym on)
