-- Pins as complemented bits.
use Rattle.std.proofs.Common.{◌≡◌, ℕ, zero, suc, ◌+◌, ◌-◌, ◌*◌, ◌/◌, ◌%◌, ◌^◌, ◌≤◌, ◌<◌, Bool, List, ◌++◌, map, refl, sym, ap, ◌∙◌, arith, not}
use Rattle.std.specs.Prelude.{◌==◌, bit_and}
use Rattle.std.specs.List.{range_with_len}
use Rattle.std.proofs.Math.Nat.{mul_assoc, pow-le-pow_right, mod-lt}
use Rattle.std.proofs.lemmas.Nat.{pow-add, mod-pow-add, shr-shr, and_mask, and_le_r, one_shl, pow_pos, shl_below}
use Rattle.ps_model.specs.Stored.{bit}
use Rattle.ps_rows.specs.Names.{complemented, first_pins}
use Rattle.ps_model.specs.PinBits.{pin_of}

-- a bit and its complement
with_complement : (n : ℕ) → n < 2 → bit (not (n == 1)) + n ≡ 1
with_complement zero h = refl
with_complement (suc zero) h = refl
with_complement (suc (suc n)) h = absurd (omega arith)

sums : (b c low w others more p twice field : ℕ) → b + w ≡ 1 → c + low + 1 ≡ p + others → field ≡ low * 2 + w → twice ≡ p * 2 → more ≡ others * 2 → b + 2 * c + field + 1 ≡ twice + more
sums b c low w others more p twice field h1 h2 h3 h4 h5 = omega arith

last_sum : (c field others more : ℕ) → c ≡ others → field ≡ 0 → more ≡ others → c + field + 1 ≡ 1 + more
last_sum c field others more h1 h2 h3 = omega arith

-- n pins from pin i on, complemented, with the n bits from i on: all n bits are 1; other conditions stand before them
complements : (n bits i : ℕ) (bs : List Bool) →
    complemented (map (pin_of bits) (range_with_len i n) ++ bs) + bits / 2 ^ i % 2 ^ n + 1 ≡ 2 ^ n + complemented bs * 2 ^ n
complements zero bits i bs = last_sum (complemented bs) (bits / 2 ^ i % 1) (complemented bs) (complemented bs * 1) refl (omega arith) (omega arith)
complements (suc n) bits i bs =
    let x = bits / 2 ^ i in
    let next : suc n ≡ n + 1 = omega arith in
    let field : x % 2 ^ suc n ≡ (bits / 2 ^ (i + 1) % 2 ^ n) * 2 + x % 2 =
    ap (λ m. x % 2 ^ m) next ∙ mod-pow-add x n 1 ∙ ap (λ y. (y % 2 ^ n) * 2 + x % 2) (shr-shr bits i 1) in
    let twice : 2 ^ suc n ≡ 2 ^ n * 2 = ap (λ m. 2 ^ m) next ∙ pow-add 2 n 1 in
    let more : complemented bs * 2 ^ suc n ≡ complemented bs * 2 ^ n * 2 =
    ap (λ m. complemented bs * m) twice ∙ sym (mul_assoc (complemented bs) (2 ^ n) 2) in
    sums (bit (not (x % 2 == 1))) (complemented (map (pin_of bits) (range_with_len (i + 1) n) ++ bs)) (bits / 2 ^ (i + 1) % 2 ^ n) (x % 2)
    (complemented bs * 2 ^ n) (complemented bs * 2 ^ suc n) (2 ^ n) (2 ^ suc n) (x % 2 ^ suc n)
    (with_complement (x % 2) (omega arith)) (complements n bits (i + 1) bs) field twice more

-- a mask of n bits, n at most 8
pub low_power : (n : ℕ) → n ≤ 8 → 2 ^ n ≤ 256
low_power n h = pow-le-pow_right (omega arith) h

pub shifted_one : (n : ℕ) → n ≤ 8 → 1 * 2 ^ n % 2 ^ 32 ≡ 2 ^ n
shifted_one n h = one_shl n 32 (omega arith)

pub shifted_few : (others n : ℕ) → others < 4 → n ≤ 8 → others * 2 ^ n < 1024
shifted_few others n h few =
    let a : others * 2 ^ n < 2 ^ (2 + n) = shl_below others 2 n h in
    let ten : 2 + n ≤ 10 = omega arith in
    let b : 2 ^ (2 + n) ≤ 1024 = pow-le-pow_right (omega arith) ten in omega (arith, a, b)

whole : (n : ℕ) → n / 1 ≡ n
whole n = omega arith

last_step : (c first_field field p more others low mask_is shifted : ℕ) → c + first_field + 1 ≡ p + more → first_field ≡ field → more ≡ others →
    low ≡ p - 1 → mask_is ≡ field → shifted ≡ others → 0 < p → field < p → low - mask_is + shifted ≡ c
last_step c first_field field p more others low mask_is shifted h1 h2 h3 h4 h5 h6 h7 h8 = omega arith

-- ---- What `behind_pins` computes.
module _ (bits n others : ℕ) (few : n ≤ 8) (small : others < 4) where
  abbrev low : ℕ
  low = 1 * 2 ^ n % 2 ^ 32 - 1

  abbrev shifted : ℕ
  shifted = others * 2 ^ n % 2 ^ 32

  low_is : low ≡ 2 ^ n - 1
  low_is = ap (λ x. x - 1) (shifted_one n few)

  mask_is : bit_and bits low ≡ bits % 2 ^ n
  mask_is = ap (bit_and bits) low_is ∙ and_mask bits n

  shifted_is : shifted ≡ others * 2 ^ n
  shifted_is = let s = shifted_few others n small few in omega arith

  pub one_at_least : 1 ≤ 1 * 2 ^ n % 2 ^ 32
  one_at_least = let e = shifted_one n few in let p = pow_pos n in omega arith

  pub under_mask : bit_and bits low ≤ low
  under_mask = and_le_r bits low

  pub fits_word : low - bit_and bits low + shifted < 2 ^ 32
  fits_word =
      let s = shifted_few others n small few in
      let e = shifted_is in
      let l = low_is in
      let p = low_power n few in omega arith

  pub behind_is : (bs : List Bool) → others ≡ complemented bs → low - bit_and bits low + shifted ≡ complemented (first_pins n (pin_of bits) ++ bs)
  behind_is bs e =
      let all = complements n bits 0 bs in
      let more : complemented bs * 2 ^ n ≡ others * 2 ^ n = ap (λ x. x * 2 ^ n) (sym e) in
      let l = low_is in
      let m = mask_is in
      let s = shifted_is in
      let p = pow_pos n in
      let first : bits / 2 ^ 0 % 2 ^ n ≡ bits % 2 ^ n = ap (λ x. x % 2 ^ n) (whole bits) in
      last_step (complemented (first_pins n (pin_of bits) ++ bs)) (bits / 2 ^ 0 % 2 ^ n) (bits % 2 ^ n) (2 ^ n) (complemented bs * 2 ^ n) (others * 2 ^ n) low (bit_and bits low) shifted all first more l m s p (mod-lt bits p)
