-- The numbers that words are.
use Rattle.std.proofs.Common.{◌≡◌, ◌≤◌, ◌<◌, ◌+◌, ◌*◌, ◌-◌, ◌^◌, ℕ, List, [], ◌∷◌, true, false, Some, None, length, take, drop, get_or, fold, nat_lt, refl, sym, ◌∙◌, ap, arith}
use Rattle.std.proofs.lemmas.Grind.{common_steps}
use Rattle.std.proofs.lemmas.List.{take-append-drop, take_more, take_all}
use Rattle.std.specs.List.{list_all}
use Rattle.std.specs.Char.{is_ascii_digit}
use Rattle.std.proofs.lemmas.List.Sums.{fold-append}
use Rattle.std.proofs.lemmas.Bool.{le-ltb, lt-ltb}
use Rattle.std.proofs.Math.Nat.{pow-le-pow_right}
use Rattle.ps_trace.specs.Words.{digits_value, number_of}

-- more digits make no smaller value
fold_grows : (value : ℕ) (digits : List ℕ) → value ≤ fold (λ v digit. v * 10 + (digit - 48)) value digits
fold_grows value [] = omega arith
fold_grows value (digit ∷ digits) =
    let more : value * 10 + (digit - 48) ≤ fold (λ v d. v * 10 + (d - 48)) (value * 10 + (digit - 48)) digits = fold_grows (value * 10 + (digit - 48)) digits in
    omega arith

pub digits_value-take : (word : List ℕ) (i : ℕ) → digits_value (take i word) ≤ digits_value word
digits_value-take word i =
    let whole = ap digits_value (take-append-drop i word) in
    let split = fold-append (λ (v d : ℕ). v * 10 + (d - 48)) 0 (take i word) (drop i word) in
    let more = fold_grows (digits_value (take i word)) (drop i word) in
    omega (arith, whole, split, more)

-- a word whose first digits are too much already is no number
pub number_of-large : (word : List ℕ) (i : ℕ) → 4294967296 ≤ digits_value (take i word) → number_of word ≡ None
number_of-large [] i large = refl
number_of-large (b ∷ word) i large =
    let over : 4294967296 ≤ digits_value (b ∷ word) = omega (arith, digits_value-take (b ∷ word) i) in
    let no : nat_lt (digits_value (b ∷ word)) 4294967296 ≡ false = le-ltb (digits_value (b ∷ word)) 4294967296 over in
    grind (arith, common_steps)

-- one digit more
pub digits_value-more : (word : List ℕ) (i : ℕ) → i < length word →
    digits_value (take (i + 1) word) ≡ digits_value (take i word) * 10 + (get_or word i 0 - 48)
digits_value-more word i within =
    ap digits_value (take_more word i 0 within) ∙ fold-append (λ (v d : ℕ). v * 10 + (d - 48)) 0 (take i word) (get_or word i 0 ∷ [])

-- the digits before a place, with one more, are too much
pub number_of-too_large : (word : List ℕ) (i value digit : ℕ) → i < length word → value ≡ digits_value (take i word) → digit ≡ get_or word i 0 →
    4294967296 ≤ value * 10 + (digit - 48) → number_of word ≡ None
number_of-too_large word i value digit within so_far is large =
    number_of-large word (i + 1) (omega (arith, digits_value-more word i within, so_far, is))

-- digits with a value of 32 bits are a number
pub number_of-all : (word : List ℕ) (value : ℕ) → 0 < length word → list_all is_ascii_digit word ≡ true → value ≡ digits_value word → value < 4294967296 →
    number_of word ≡ Some value
number_of-all [] value some digits is fits = absurd (omega arith)
number_of-all (b ∷ word) value some digits is fits =
    let yes : nat_lt (digits_value (b ∷ word)) 4294967296 ≡ true = lt-ltb (digits_value (b ∷ word)) 4294967296 (omega arith) in
    grind (arith, common_steps)

pub number_of-digits : (word : List ℕ) (i value : ℕ) → 0 < length word → length word ≤ i → list_all is_ascii_digit (take i word) ≡ true →
    value ≡ digits_value (take i word) → value < 4294967296 → Some value ≡ number_of word
number_of-digits word i value some whole digits is fits =
    let all : take i word ≡ word = take_all i word whole in
    sym (number_of-all word value some (sym (ap (list_all is_ascii_digit) all) ∙ digits) (is ∙ ap digits_value all) fits)

-- the first byte of a number is a digit, and so are the others
pub number_of-parts : (word : List ℕ) (value : ℕ) → number_of word ≡ Some value → (0 < length word) × (list_all is_ascii_digit word ≡ true)
number_of-parts [] value is = (grind (arith, common_steps), grind (arith, common_steps))
number_of-parts (b ∷ word) value is = (omega arith, grind (arith, common_steps))

-- so many digits have a value of 32 bits
pub below_nine_digits : (n : ℕ) → n < 9 → 10 ^ n ≤ 100000000
below_nine_digits n few = pow-le-pow_right {n = 10} (omega arith) {i = n} {j = 8} (omega arith)

pub up_to_nine_digits : (n : ℕ) → n ≤ 9 → 10 ^ n ≤ 1000000000
up_to_nine_digits n few = pow-le-pow_right {n = 10} (omega arith) {i = n} {j = 9} (omega arith)
