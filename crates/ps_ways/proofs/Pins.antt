-- Pins in a number.
use Rattle.std.proofs.Common.{◌≡◌, ℕ, ◌<◌, ◌≤◌, ◌^◌, ◌⊎◌, inl, inr, sym, ap, ◌∙◌, ◌&&◌}
use Rattle.std.specs.Prelude.{◌==◌}
use Rattle.std.proofs.lemmas.Bool.{cases_lt, le-ltb, lt-ltb}
use Rattle.std.proofs.lemmas.Nat.Bits.{bit_at_above}
use Rattle.ps_model.specs.PinBits.{pin_of}
use Rattle.ps_ways.specs.Stepping.{pins_of}

-- pins in a number of 32 bits
pub same_pins : (bits : ℕ) → bits < 2 ^ 32 → pins_of bits ≡ pin_of bits
same_pins bits fits = λ i j. at j (cases_lt j 32) i
  where
    at : (j : ℕ) → (j < 32) ⊎ (32 ≤ j) → pins_of bits j ≡ pin_of bits j
    at j (inl p) = ap (λ b. b && pin_of bits j) (lt-ltb j 32 p)
    at j (inr p) = ap (λ b. b && pin_of bits j) (le-ltb j 32 p) ∙ ap (λ n. n == 1) (sym (bit_at_above bits 32 j fits p))
