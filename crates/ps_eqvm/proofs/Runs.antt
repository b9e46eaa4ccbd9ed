-- Bits that stand side by side in one word are written at once.
use Rattle.std.proofs.Common.{◌⊎◌, inl, inr, ◌≡◌, ℕ, ◌+◌, ◌-◌, ◌*◌, ◌/◌, ◌%◌, ◌^◌, ◌<◌, ◌≤◌, Bool, cond, List, length, map, sym, ap, ◌∙◌, arith}
use Rattle.std.specs.Prelude.{slice_set, slice_index, ◌==◌, max, min, bit_and, bit_or, false}
use Rattle.std.specs.Int.{bit_at, bit_not, w64}
use Rattle.std.proofs.lemmas.Bool.{cases_lt, cases_eq}
use Rattle.std.proofs.lemmas.Grind.{same_number_lists}
use Rattle.std.proofs.Math.ListN.{get_or-map}
use Rattle.std.proofs.lemmas.List.{get_or-set_same, get_or-set_other, length-map}
use Rattle.std.proofs.lemmas.Nat.{one_shl}
use Rattle.std.proofs.lemmas.Nat.Bits.{bit_at-lt, bit_at-zero, bit_at_and, bit_at_or, bit_at_not, bit_at_above, bit_at_ones, bit_at_ones_above}
use Rattle.ps_machine.specs.Bytes.{bit, replaced}
use Rattle.ps_machine.proofs.Places.{length-replaced, index_before, index_within, index_after}
use Rattle.ps_eqvm.specs.Bits.{bit_in, plain_cell, plain_cells, AreCells}
use Rattle.ps_eqvm.specs.LowBits.{AreLowBits}
use Rattle.ps_eqvm.proofs.LowBits.{shifted_low, shifted_high}
use Rattle.ps_eqvm.proofs.KeptBits.{length-cells, index-cells}

-- a bit of a word of which a mask takes the bits of another
outside_mask : (w m s : ℕ) → w < 2 → m ≡ 0 → max (min w (1 - m)) (min s m) ≡ w
outside_mask w m s small off = omega (arith, small, off)

under_mask : (w m s : ℕ) → s < 2 → m ≡ 1 → max (min w (1 - m)) (min s m) ≡ s
under_mask w m s small on = omega (arith, small, on)

module _ (word number at count : ℕ) (fits : at + count ≤ 64) (few : count < 64) (small : word < 2 ^ 64) where
  abbrev pub ones : ℕ
  ones = 1 * 2 ^ count % 2 ^ 64 - 1

  abbrev pub mask : ℕ
  mask = ones * 2 ^ at % 2 ^ 64

  abbrev pub shifted : ℕ
  shifted = number * 2 ^ at % 2 ^ 64

  abbrev pub run : ℕ
  run = bit_or (bit_and word (bit_not w64 mask)) (bit_and shifted mask)

  ones_are : ones ≡ 2 ^ count - 1
  ones_are = ap (λ n. n - 1) (one_shl count 64 few)

  mask_small : mask < 2 ^ 64
  mask_small = omega arith

  shifted_small : shifted < 2 ^ 64
  shifted_small = omega arith

  mask_low : (j : ℕ) → j < 64 → j < at → bit_at mask j ≡ 0
  mask_low j low below = shifted_low ones at 64 j low below

  mask_inside : (j : ℕ) → j < 64 → at ≤ j → j < at + count → bit_at mask j ≡ 1
  mask_inside j low above within = shifted_high ones at 64 j low above ∙ ap (λ n. bit_at n (j - at)) ones_are ∙ bit_at_ones count (j - at) (omega (arith, above, within))

  mask_high : (j : ℕ) → j < 64 → at + count ≤ j → bit_at mask j ≡ 0
  mask_high j low past = shifted_high ones at 64 j low (omega (arith, past)) ∙ ap (λ n. bit_at n (j - at)) ones_are ∙ bit_at_ones_above count (j - at) (omega (arith, past))

  bits : (j : ℕ) → j < 64 → bit_at run j ≡ max (min (bit_at word j) (1 - bit_at mask j)) (min (bit_at shifted j) (bit_at mask j))
  bits j low =
      bit_at_or (bit_and word (bit_not w64 mask)) (bit_and shifted mask) j
      ∙ (λ x. max ((bit_at_and word (bit_not w64 mask) j ∙ ap (λ n. min (bit_at word j) n) (bit_at_not w64 mask j mask_small low)) x) (bit_at_and shifted mask j x))

  kept : (j : ℕ) → j < 64 → bit_at mask j ≡ 0 → bit_at run j ≡ bit_at word j
  kept j low off = bits j low ∙ outside_mask (bit_at word j) (bit_at mask j) (bit_at shifted j) (bit_at-lt word j) off

  far : (j : ℕ) → 64 ≤ j → bit_at run j ≡ bit_at word j
  far j high =
      let none = bit_at_above word 64 j small high in
      let none' = bit_at_above mask 64 j mask_small high in
      bit_at_or (bit_and word (bit_not w64 mask)) (bit_and shifted mask) j
      ∙ (λ x. max ((bit_at_and word (bit_not w64 mask) j ∙ ap (λ n. min n (bit_at (bit_not w64 mask) j)) none) x) ((bit_at_and shifted mask j ∙ ap (λ n. min (bit_at shifted j) n) none') x))
      ∙ nothing (bit_at (bit_not w64 mask) j) (bit_at shifted j) ∙ sym none
    where
      nothing : (a b : ℕ) → max (min 0 a) (min b 0) ≡ 0
      nothing a b = omega arith

  pub run_inside : (k : ℕ) → k < count → bit_at run (at + k) ≡ bit_at number k
  run_inside k within =
      let low : at + k < 64 = omega (arith, within, fits) in
      let on = mask_inside (at + k) low (omega arith) (omega (arith, within)) in
      let back : at + k - at ≡ k = omega arith in
      bits (at + k) low ∙ under_mask (bit_at word (at + k)) (bit_at mask (at + k)) (bit_at shifted (at + k)) (bit_at-lt shifted (at + k)) on
      ∙ shifted_high number at 64 (at + k) low (omega arith) ∙ ap (bit_at number) back

  pub run_before : (j : ℕ) → j < at → bit_at run j ≡ bit_at word j
  run_before j below = let low : j < 64 = omega (arith, below, fits) in kept j low (mask_low j low below)

  pub run_after : (j : ℕ) → at + count ≤ j → bit_at run j ≡ bit_at word j
  run_after j past = elim (cases_lt j 64) [
    | inl low ↦ kept j low (mask_high j low past)
    | inr high ↦ far j high
  ]

-- a word is replaced by one with such a run
module _ (words : List ℕ) (i count number w : ℕ) (within : i / 64 < length words) (fits : i % 64 + count ≤ 64) where
  new : List ℕ
  new = slice_set words (i / 64) w

  same_word : (j : ℕ) → j / 64 ≡ i / 64 → bit_in new j ≡ bit_at w (j % 64)
  unfolding new
  same_word j one = ap (λ k. bit_at (slice_index new k) (j % 64)) one ∙ ap (λ x. bit_at x (j % 64)) (get_or-set_same words (i / 64) w 0 within)

  pub in_run : ((k : ℕ) → k < count → bit_at w (i % 64 + k) ≡ bit_at number k) → (k : ℕ) → k < count → bit_in (slice_set words (i / 64) w) (i + k) ≡ bit_at number k
  unfolding new
  in_run inside k low =
      let one : (i + k) / 64 ≡ i / 64 = omega (arith, low, fits) in
      let rest : (i + k) % 64 ≡ i % 64 + k = omega (arith, low, fits) in
      same_word (i + k) one ∙ ap (bit_at w) rest ∙ inside k low

  pub off_run : ((k : ℕ) → k < i % 64 → bit_at w k ≡ bit_at (slice_index words (i / 64)) k) → ((k : ℕ) → i % 64 + count ≤ k → bit_at w k ≡ bit_at (slice_index words (i / 64)) k) →
      (j : ℕ) → (j < i) ⊎ (i + count ≤ j) → bit_in (slice_set words (i / 64) w) j ≡ bit_in words j
  unfolding new
  off_run before after j where_is =
      elim (cases_eq (j / 64) (i / 64)) [
        | inl one ↦ same_word j one ∙ other j one where_is ∙ ap (λ k. bit_at (slice_index words k) (j % 64)) (sym one)
        | inr two ↦ ap (λ x. bit_at x (j % 64)) (get_or-set_other words (i / 64) (j / 64) w 0 two)
      ]
    where
      other : (j : ℕ) → j / 64 ≡ i / 64 → (j < i) ⊎ (i + count ≤ j) → bit_at w (j % 64) ≡ bit_at (slice_index words (i / 64)) (j % 64)
      other j one (inl low) = before (j % 64) (omega (arith, one, low))
      other j one (inr high) = after (j % 64) (omega (arith, one, high))

-- words of which each bit is 0, and so many side by side become 0
pub run_clear : (odd odd' : List ℕ) (i count : ℕ) → ((k : ℕ) → k < count → bit_in odd' (i + k) ≡ bit_at 0 k) → ((j : ℕ) → (j < i) ⊎ (i + count ≤ j) → bit_in odd' j ≡ bit_in odd j) →
    ((j : ℕ) → bit_in odd j ≡ 0) → (j : ℕ) → bit_in odd' j ≡ 0
run_clear odd odd' i count inside off clear j = elim (cases_lt j i) [
  | inl low ↦ off j (inl low) ∙ clear j
  | inr high ↦ elim (cases_lt j (i + count)) [
    | inl within ↦
        let k = j - i in
        let there : j ≡ i + k = omega (arith, high) in
        ap (bit_in odd') there ∙ inside k (omega (arith, high, within)) ∙ bit_at-zero k
    | inr past ↦ off j (inr past) ∙ clear j
  ]
]

-- cells of which so many side by side are new, and not odd
module _ (value value' odd odd' counted : List ℕ) (i count number : ℕ) (is : AreCells value odd counted) (room : i + count ≤ length counted)
    (size : length value' ≡ length value) (size' : length odd' ≡ length odd)
    (value_in : (k : ℕ) → k < count → bit_in value' (i + k) ≡ bit_at number k) (value_off : (j : ℕ) → (j < i) ⊎ (i + count ≤ j) → bit_in value' j ≡ bit_in value j)
    (odd_in : (k : ℕ) → k < count → bit_in odd' (i + k) ≡ bit_at 0 k) (odd_off : (j : ℕ) → (j < i) ⊎ (i + count ≤ j) → bit_in odd' j ≡ bit_in odd j) where
  -- within the run, with its place there, or off it
  place : (j : ℕ) → ((k : ℕ) × (j ≡ i + k) × (k < count)) ⊎ ((j < i) ⊎ (i + count ≤ j))
  place j = elim (cases_lt j i) [
    | inl low ↦ inr (inl low)
    | inr high ↦ elim (cases_lt j (i + count)) [
      | inl within ↦ inl (j - i, omega (arith, high), omega (arith, high, within))
      | inr past ↦ inr (inr past)
    ]
  ]

  even : (k : ℕ) → k < count → bit_in odd' (i + k) ≡ 0
  even k low = odd_in k low ∙ bit_at-zero k

  counts : (j : ℕ) → bit_in odd' j ≡ 1 → 1 < slice_index counted j
  counts j on = elim (place j) [
    | inl within ↦ let e = even within.0 within.2 in absurd (omega (arith, ap (bit_in odd') (sym within.1), on, e))
    | inr off ↦ is.counts j (sym (odd_off j off) ∙ on)
  ]

  beside : (j : ℕ) → bit_in odd' j ≡ 1 → bit_in value' j ≡ 0
  beside j on = elim (place j) [
    | inl within ↦ let e = even within.0 within.2 in absurd (omega (arith, ap (bit_in odd') (sym within.1), on, e))
    | inr off ↦ value_off j off ∙ is.beside j (sym (odd_off j off) ∙ on)
  ]

  pub run_cells : AreCells value' odd' counted
  run_cells = record {
    value_words = size ∙ is.value_words;
    odd_words = size' ∙ is.odd_words;
    counts = counts;
    beside = beside;
    value_beyond = λ j past. value_off j (inr (omega (arith, past, room))) ∙ is.value_beyond j past;
    odd_beyond = λ j past. odd_off j (inr (omega (arith, past, room))) ∙ is.odd_beyond j past;
  }

  same_cell : (j : ℕ) → (j < i) ⊎ (i + count ≤ j) → plain_cell value' odd' counted j ≡ plain_cell value odd counted j
  same_cell j off = λ x. cond (odd_off j off x == 1) (slice_index counted j) (value_off j off x)

  new_cell : (k : ℕ) → k < count → plain_cell value' odd' counted (i + k) ≡ bit_at number k
  new_cell k low = ap (λ b. cond (b == 1) (slice_index counted (i + k)) (bit_in value' (i + k))) (even k low) ∙ value_in k low

  pub run_written : (values : List Bool) → length values ≡ count → AreLowBits values number →
      plain_cells value' odd' counted ≡ replaced (plain_cells value odd counted) i (map bit values)
  run_written values many low =
      let old = plain_cells value odd counted in
      let bits = map bit values in
      let long : length bits ≡ count = length-map values bit ∙ many in
      let len = length-cells value odd counted in
      let len' = length-cells value' odd' counted in
      let fits : i + length bits ≤ length old = omega (arith, long, len, room) in
      let start : i ≤ length old = omega (arith, len, room) in
      same_number_lists (plain_cells value' odd' counted) (replaced old i bits) (len' ∙ sym len ∙ sym (length-replaced old i bits fits)) (λ j within.
      let inside : j < length counted = omega (arith, within, len') in
      index-cells value' odd' counted j inside ∙ elim (place j) [
        | inl here ↦
            let k = here.0 in
            ap (plain_cell value' odd' counted) here.1 ∙ new_cell k here.2 ∙ low.each k (omega (arith, here.2, many))
            ∙ sym (get_or-map bit values k false)
            ∙ sym (index_within old i bits k (omega (arith, here.2, long)) start) ∙ ap (slice_index (replaced old i bits)) (sym here.1)
        | inr off ↦
            same_cell j off ∙ sym (index-cells value odd counted j inside) ∙ elim off [
              | inl before ↦ sym (index_before old i bits j before start)
              | inr after ↦ sym (index_after old i bits j (omega (arith, after, long)) start)
            ]
      ])
