-- Numbers by their lowest bits.
use Rattle.std.proofs.Common.{inl, inr, ◌≡◌, ◌≢◌, ℕ, zero, suc, ◌+◌, ◌-◌, ◌*◌, ◌/◌, ◌%◌, ◌^◌, ◌<◌, ◌≤◌, Bool, true, false, List, [], ◌∷◌, ◌++◌, length, map, refl, sym, ap, ◌∙◌, arith, lit<, add-zero, zero-add, length-append, get_or}
use Rattle.std.specs.Prelude.{slice_index_or, ◌==◌, max, bit_or}
use Rattle.std.specs.List.{range_with_len}
use Rattle.std.specs.Int.{bit_at, from_bool}
use Rattle.std.proofs.lemmas.Bool.{cases_lt, cases_eq}
use Rattle.std.proofs.lemmas.List.{get_or_append_left, get_or-append-add}
use Rattle.std.proofs.lemmas.List.FromFn.{length-map-range_with_len, get_or-map-range_with_len}
use Rattle.std.proofs.lemmas.Nat.{pow_pos, shr_split}
use Rattle.std.proofs.lemmas.Nat.Bits.{bit_at-zero, bit_at_or, bit_at_above, bit_at_cat_low, bit_at_cat_high}
use Rattle.ps_machine.specs.Bytes.{bit}
use Rattle.ps_eqvm.specs.LowBits.{AreLowBits}

-- the low bits of a number are those of its rest
pub bit_at-mod : (n w j : ℕ) → j < w → bit_at (n % 2 ^ w) j ≡ bit_at n j
bit_at-mod n w j low = sym (ap (λ m. bit_at m j) (sym (shr_split n w)) ∙ bit_at_cat_low (n / 2 ^ w) w (n % 2 ^ w) j low)

pub shifted_low : (n k w j : ℕ) → j < w → j < k → bit_at (n * 2 ^ k % 2 ^ w) j ≡ 0
shifted_low n k w j low below = bit_at-mod (n * 2 ^ k) w j low ∙ ap (λ m. bit_at m j) (sym (add-zero (n * 2 ^ k))) ∙ bit_at_cat_low n k 0 j below ∙ bit_at-zero j

pub shifted_high : (n k w j : ℕ) → j < w → k ≤ j → bit_at (n * 2 ^ k % 2 ^ w) j ≡ bit_at n (j - k)
shifted_high n k w j low above = bit_at-mod (n * 2 ^ k) w j low ∙ ap (λ m. bit_at m j) (sym (add-zero (n * 2 ^ k))) ∙ bit_at_cat_high n k 0 j (pow_pos k) above

-- a truth value as a number
pub byte_bit : (b : Bool) → from_bool b ≡ bit b
byte_bit true = refl
byte_bit false = refl

pub bit_again : (b : Bool) → bit (bit b == 1) ≡ bit b
bit_again true = refl
bit_again false = refl

pub bit_first : (b : Bool) → bit_at (bit b) 0 ≡ bit b
bit_first true = refl
bit_first false = refl

bit_small : (b : Bool) → bit b < 2 ^ 1
bit_small true = lit< tt
bit_small false = lit< tt

-- bit j of a number, where it is TRUE
pub bit_joined : (number j byte : ℕ) (on : Bool) → byte ≡ from_bool on → j < 32 → bit_at (bit_or number (byte * 2 ^ j % 2 ^ 32)) j ≡ max (bit_at number j) (bit on)
bit_joined number j byte on is low =
    let none : j - j ≡ 0 = omega arith in
    let own : j ≤ j = omega arith in
    bit_at_or number (byte * 2 ^ j % 2 ^ 32) j
    ∙ ap (max (bit_at number j)) (shifted_high byte j 32 j low own ∙ ap (bit_at byte) none ∙ ap (λ n. bit_at n 0) (is ∙ byte_bit on) ∙ bit_first on)

pub bit_beside : (number j byte : ℕ) (on : Bool) → byte ≡ from_bool on → j < 32 → (k : ℕ) → k ≢ j → bit_at (bit_or number (byte * 2 ^ j % 2 ^ 32)) k ≡ bit_at number k
bit_beside number j byte on is low k other = bit_at_or number (byte * 2 ^ j % 2 ^ 32) k ∙ ap (max (bit_at number k)) none ∙ max_none (bit_at number k)
  where
    max_none : (n : ℕ) → max n 0 ≡ n
    max_none n = omega arith

    none : bit_at (byte * 2 ^ j % 2 ^ 32) k ≡ 0
    none = elim (cases_lt k 32) [
      | inl low' ↦ elim (cases_lt k j) [
        | inl below ↦ shifted_low byte j 32 k low' below
        | inr above ↦ shifted_high byte j 32 k low' above ∙ ap (λ n. bit_at n (k - j)) (is ∙ byte_bit on) ∙ bit_at_above (bit on) 1 (k - j) (bit_small on) (omega (arith, above, other))
      ]
      | inr high ↦ bit_at_above (byte * 2 ^ j % 2 ^ 32) 32 k (omega arith) high
    ]

-- one truth value, and two
pub one_bit : (b : Bool) (n : ℕ) → n ≡ bit b → AreLowBits (b ∷ []) n
one_bit b n is = record {
  each = λ j low. each j low;
  beyond = λ j high. ap (λ m. bit_at m j) is ∙ past b j high;
}
  where
    each : (j : ℕ) → j < 1 → bit_at n j ≡ bit (slice_index_or (b ∷ []) j false)
    each zero low = ap (λ m. bit_at m 0) is ∙ bit_first b
    each (suc j) low = absurd (omega (arith, low))

    past : (b : Bool) (j : ℕ) → 1 ≤ j → bit_at (bit b) j ≡ 0
    past true j high = bit_at_above 1 1 j (omega arith) high
    past false j high = bit_at-zero j

pub two_are : (a b : Bool) (n : ℕ) → n ≡ bit_or (bit a) (bit b * 2 ^ 1 % 2 ^ 32) → AreLowBits (a ∷ b ∷ []) n
two_are a b n is = record {
  each = λ j low. ap (λ m. bit_at m j) is ∙ each a b j low;
  beyond = λ j high. ap (λ m. bit_at m j) is ∙ bit_at_above (bit_or (bit a) (bit b * 2 ^ 1 % 2 ^ 32)) 2 j (small a b) high;
}
  where
    each : (a b : Bool) (j : ℕ) → j < 2 → bit_at (bit_or (bit a) (bit b * 2 ^ 1 % 2 ^ 32)) j ≡ bit (slice_index_or (a ∷ b ∷ []) j false)
    each true true zero low = refl
    each true false zero low = refl
    each false true zero low = refl
    each false false zero low = refl
    each true true (suc zero) low = refl
    each true false (suc zero) low = refl
    each false true (suc zero) low = refl
    each false false (suc zero) low = refl
    each a b (suc (suc j)) low = absurd (omega (arith, low))

    small : (a b : Bool) → bit_or (bit a) (bit b * 2 ^ 1 % 2 ^ 32) < 2 ^ 2
    small true true = lit< tt
    small true false = lit< tt
    small false true = lit< tt
    small false false = lit< tt

-- no truth values
pub no_bits : AreLowBits [] 0
no_bits = record { each = λ j low. absurd (omega (arith, low)); beyond = λ j high. bit_at-zero j }

-- one more
pub one_more : (f : ℕ → Bool) (n number number' : ℕ) → AreLowBits (map f (range_with_len 0 n)) number → bit_at number' n ≡ max (bit_at number n) (bit (f n)) →
    ((k : ℕ) → k ≢ n → bit_at number' k ≡ bit_at number k) → AreLowBits (map f (range_with_len 0 (n + 1))) number'
one_more f n number number' are same others =
    let size = length-map-range_with_len f 0 n in
    let size' = length-map-range_with_len f 0 (n + 1) in
    record {
      each = λ j low. let at = get_or-map-range_with_len f 0 (n + 1) j j false (omega (arith, low, size')) (zero-add j) in
          elim (cases_eq j n) [
            | inl last ↦ ap (bit_at number') last ∙ same ∙ ap (λ x. max x (bit (f n))) (are.beyond n (omega (arith, size))) ∙ none_before (f n) ∙ ap (λ k. bit (f k)) (sym last) ∙ ap bit (sym at)
            | inr other ↦ let low' : j < n = omega (arith, low, other, size') in
                others j other ∙ are.each j (omega (arith, low', size)) ∙ ap bit (get_or-map-range_with_len f 0 n j j false low' (zero-add j) ∙ sym at)
          ];
      beyond = λ j high. let past : n + 1 ≤ j = omega (arith, high, size') in let other : j ≢ n = omega (arith, past) in others j other ∙ are.beyond j (omega (arith, past, size));
    }
  where
    none_before : (on : Bool) → max 0 (bit on) ≡ bit on
    none_before true = refl
    none_before false = refl

-- those of one number, and then those of another
pub follow : (xs ys : List Bool) (low high count : ℕ) → length xs ≡ count → length xs + length ys ≤ 32 → AreLowBits xs low → AreLowBits ys high →
    AreLowBits (xs ++ ys) (bit_or low (high * 2 ^ count % 2 ^ 32))
follow xs ys low high count is few one two =
    let both = length-append xs ys in
    let bits : (j : ℕ) → bit_at (bit_or low (high * 2 ^ count % 2 ^ 32)) j ≡ max (bit_at low j) (bit_at (high * 2 ^ count % 2 ^ 32) j) = λ j. bit_at_or low (high * 2 ^ count % 2 ^ 32) j in
    record {
      each = λ j within. elim (cases_lt j count) [
        | inl below ↦
            bits j ∙ (λ x. max (one.each j (omega (arith, below, is)) x) (shifted_low high count 32 j (omega (arith, within, both, few)) below x)) ∙ max_zero (bit (slice_index_or xs j false))
            ∙ ap bit (sym (get_or_append_left xs ys false j (omega (arith, below, is))))
        | inr above ↦
            let k = j - count in
            let there : j ≡ length xs + k = omega (arith, above, is) in
            bits j ∙ (λ x. max (one.beyond j (omega (arith, above, is)) x) (shifted_high high count 32 j (omega (arith, within, both, few)) above x))
            ∙ zero_max (bit_at high k) ∙ two.each k (omega (arith, within, both, above, is))
            ∙ ap bit (sym (ap (λ n. get_or (xs ++ ys) n false) there ∙ get_or-append-add xs ys k false))
      ];
      beyond = λ j past. elim (cases_lt j 32) [
        | inl low' ↦ bits j ∙ (λ x. max (one.beyond j (omega (arith, past, both)) x) ((shifted_high high count 32 j low' (omega (arith, past, both, is)) ∙ two.beyond (j - count) (omega (arith, past, both, is))) x))
        | inr high' ↦ bits j ∙ (λ x. max (one.beyond j (omega (arith, past, both)) x) (bit_at_above (high * 2 ^ count % 2 ^ 32) 32 j (omega arith) high' x))
      ];
    }
  where
    max_zero : (n : ℕ) → max n 0 ≡ n
    max_zero n = omega arith

    zero_max : (n : ℕ) → max 0 n ≡ n
    zero_max n = omega arith
