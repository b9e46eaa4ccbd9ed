-- The modes of SF_ModeSelector by their bits.
use Rattle.std.proofs.Common.{◌≡◌, ℕ, zero, suc, ◌+◌, ◌*◌, ◌/◌, ◌%◌, ◌^◌, ◌<◌, cond, map, refl, sym, ap, ◌∙◌, arith}
use Rattle.std.specs.Prelude.{◌==◌, bit_and, count_ones}
use Rattle.std.specs.List.{range_with_len}
use Rattle.std.specs.Simd.Lanes.{mask_l}
use Rattle.std.proofs.lemmas.Nat.{mod-pow-add, shr-shr, and_mask}
use Rattle.std.proofs.lemmas.Simd.{ones-mask_l}
use Rattle.ps_model.specs.Blocks.{modes_on}
use Rattle.ps_model.specs.PinBits.{pin_of}

digit : (n : ℕ) → n < 2 → cond (n == 1) 1 0 ≡ n
digit zero h = refl
digit (suc zero) h = refl
digit (suc (suc n)) h = absurd (omega arith)

sums : (b w rest mask field : ℕ) → b ≡ w → mask ≡ rest → field ≡ rest * 2 + w → b + 2 * mask ≡ field
sums b w rest mask field h1 h2 h3 = omega arith

-- n pins from the one after pin i on, as a number
mask_is : (n bits i : ℕ) → mask_l (map (λ m. pin_of bits (m + 1)) (range_with_len i n)) ≡ bits / 2 ^ (i + 1) % 2 ^ n
mask_is zero bits i = omega arith
mask_is (suc n) bits i =
    let x = bits / 2 ^ (i + 1) in
    let next : suc n ≡ n + 1 = omega arith in
    let field : x % 2 ^ suc n ≡ (bits / 2 ^ (i + 1 + 1) % 2 ^ n) * 2 + x % 2 =
    ap (λ m. x % 2 ^ m) next ∙ mod-pow-add x n 1 ∙ ap (λ y. (y % 2 ^ n) * 2 + x % 2) (shr-shr bits (i + 1) 1) in
    sums (cond (x % 2 == 1) 1 0) (x % 2) (bits / 2 ^ (i + 1 + 1) % 2 ^ n) (mask_l (map (λ m. pin_of bits (m + 1)) (range_with_len (i + 1) n))) (x % 2 ^ suc n)
    (digit (x % 2) (omega arith)) (mask_is n bits (i + 1)) field

-- the modes are the pins 1 to 8
pub count_of_modes : (bits : ℕ) → count_ones (bit_and (bits / 2 ^ 1) 255) ≡ modes_on (pin_of bits)
count_of_modes bits =
    ap count_ones (and_mask (bits / 2 ^ 1) 8 ∙ sym (mask_is 8 bits 0)) ∙ ones-mask_l (λ m. pin_of bits (m + 1)) (range_with_len 0 8)
