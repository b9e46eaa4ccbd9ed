-- Tokens that were written are read.
use Rattle.std.proofs.Common.{◌≡◌, ◌<◌, ◌+◌, ◌*◌, ◌/◌, ◌%◌, ◌^◌, ◌++◌, ◌∙◌, ◌==◌, ◌-◌, ◌&&◌, eqb-true, ltb-true, ℕ, zero, suc, List, [], ◌∷◌, Bool, true, false, nat_lt, if◌then◌else◌, length, flat_map, decimal, refl, sym, ap, arith, length-append, pow-suc}
use Rattle.std.specs.List.{list_all, AllByRecursion}
use Rattle.std.specs.Str.Parse.{AllDigits, digits_value}
use Rattle.std.specs.Char.{digit_value}
use Rattle.std.proofs.lemmas.Bool.Decides.{nat_tests}
use Rattle.std.proofs.lemmas.Fmt.{decimal_is_IsNumeral}
use Rattle.std.proofs.lemmas.Int.Digits.{digits_value_push}
use Rattle.std.proofs.lemmas.Str.{digit_value_digit}
use Rattle.std.proofs.lemmas.Str.Parse.{digit_from_value}
use Rattle.ps_bench_waves.specs.Identifiers.{character, identifier}
use Rattle.ps_bench_waves.specs.Text.{bits, shown_byte}
use Rattle.ps_bench_waves.specs.Reading.{is_white, onto_token, before_tokens, tokens, words_from}
use Rattle.ps_bench_waves.specs.ReadBack.{is_plain, is_printable}

-- no byte is white space
abbrev pub AreInk : List ℕ → Type 0
AreInk bytes = AllByRecursion (λ b. is_white b ≡ false) bytes

pub ink_append : (a b : List ℕ) → AreInk a → AreInk b → AreInk (a ++ b)
ink_append [] b first second = second
ink_append (x ∷ a) b first second = (first.0, ink_append a b first.1 second)

-- ink in front of white space is a token
pub token_before : (b : ℕ) (token : List ℕ) (c : ℕ) (rest : List ℕ) → AreInk (b ∷ token) → is_white c ≡ true → tokens ((b ∷ token) ++ c ∷ rest) ≡ (b ∷ token) ∷ tokens rest
token_before b [] c rest ink white =
    ap (λ (t : Bool). if t then tokens (c ∷ rest) else before_tokens b (c ∷ rest) (tokens (c ∷ rest))) ink.0
    ∙ ap (λ (t : Bool). if t then (b ∷ []) ∷ tokens (c ∷ rest) else onto_token b (tokens (c ∷ rest))) white
    ∙ ap (λ (t : Bool). (b ∷ []) ∷ (if t then tokens rest else before_tokens c rest (tokens rest))) white
token_before b (d ∷ token) c rest ink white =
    let bytes = (d ∷ token) ++ c ∷ rest in
    ap (λ (t : Bool). if t then tokens bytes else before_tokens b bytes (tokens bytes)) ink.0
    ∙ ap (λ (t : Bool). if t then (b ∷ []) ∷ tokens bytes else onto_token b (tokens bytes)) ink.1.0
    ∙ ap (onto_token b) (token_before d token c rest ink.1 white)

pub token_of : (token : List ℕ) (c : ℕ) (rest : List ℕ) → 0 < length token → AreInk token → is_white c ≡ true → tokens (token ++ c ∷ rest) ≡ token ∷ tokens rest
token_of [] c rest some ink white = absurd (omega arith)
token_of (b ∷ token) c rest some ink white = token_before b token c rest ink white

-- ---- Identifiers.

-- what holds of each answer holds of the one that is chosen
pub chosen : {X : Type 0} (P : X → Type 0) (t : Bool) (a b : X) → (t ≡ true → P a) → (t ≡ false → P b) → P (if t then a else b)
chosen P true a b first second = first refl
chosen P false a b first second = second refl

character_ink : (n : ℕ) → is_white (character n) ≡ false
character_ink n = grind (arith, nat_tests)

pub identifier_ink : (n : ℕ) → AreInk (identifier n)
identifier_ink n =
    let a = character_ink (n / 94) in let b = character_ink (n % 94) in
    chosen AreInk (nat_lt n 94) _ _ (λ _. (character_ink n, tt))
    (λ _. chosen AreInk (nat_lt n 8836) _ _ (λ _. (a, (b, tt))) (λ _. (character_ink (n / 8836), (character_ink (n / 94 % 94), (b, tt)))))

pub identifier_some : (n : ℕ) → 0 < length (identifier n)
identifier_some n =
    chosen (λ (bytes : List ℕ). 0 < length bytes) (nat_lt n 94) _ _ (λ _. omega arith)
    (λ _. chosen (λ (bytes : List ℕ). 0 < length bytes) (nat_lt n 8836) _ _ (λ _. omega arith) (λ _. omega arith))

-- the number that an identifier is of
number_of : List ℕ → ℕ
number_of [] = 0
number_of (a ∷ []) = a - 33
number_of (a ∷ b ∷ []) = (a - 33) * 94 + (b - 33)
number_of (a ∷ b ∷ c ∷ more) = (a - 33) * 8836 + (b - 33) * 94 + (c - 33)

number_back : (n : ℕ) → number_of (identifier n) ≡ n
unfolding number_of
number_back n =
    chosen (λ (bytes : List ℕ). number_of bytes ≡ n) (nat_lt n 94) _ _ (λ _. omega arith)
    (λ _. chosen (λ (bytes : List ℕ). number_of bytes ≡ n) (nat_lt n 8836) _ _ (λ _. omega arith) (λ _. omega arith))

pub identifier_unique : (m n : ℕ) → identifier m ≡ identifier n → m ≡ n
identifier_unique m n is = sym (number_back m) ∙ ap number_of is ∙ number_back n

character_prints : (n : ℕ) → n < 94 → is_printable (character n) ≡ true
character_prints n small = grind (arith, nat_tests)

print_on : (n : ℕ) (bytes : List ℕ) → n < 94 → list_all is_printable bytes ≡ true → list_all is_printable (character n ∷ bytes) ≡ true
print_on n bytes small prints = ap (λ (t : Bool). t && list_all is_printable bytes) (character_prints n small) ∙ prints

pub identifier_prints : (n : ℕ) → n < 830584 → list_all is_printable (identifier n) ≡ true
identifier_prints n few =
    let Prints : List ℕ → Type 0 = λ bytes. list_all is_printable bytes ≡ true in
    chosen Prints (nat_lt n 94) _ _ (λ is. print_on n [] (ltb-true n 94 is) refl)
    (λ _. chosen Prints (nat_lt n 8836) _ _ (λ is. let less = ltb-true n 8836 is in print_on (n / 94) (character (n % 94) ∷ []) (omega (arith, less)) (print_on (n % 94) [] (omega arith) refl))
    (λ _. print_on (n / 8836) (character (n / 94 % 94) ∷ character (n % 94) ∷ []) (omega arith) (print_on (n / 94 % 94) (character (n % 94) ∷ []) (omega arith) (print_on (n % 94) [] (omega arith) refl))))

-- ---- Numbers.

digit_ink : (b : ℕ) → digit_value b < 10 → is_white b ≡ false
digit_ink b small = let range = digit_from_value b small in grind (arith, nat_tests)

digits_ink : (digits : List ℕ) → AllDigits 10 digits → AreInk digits
digits_ink [] are = tt
digits_ink (b ∷ digits) are = (digit_ink b are.0, digits_ink digits are.1)

pub decimal_ink : (n : ℕ) → n < 2 ^ 64 → AreInk (decimal n)
decimal_ink n small = digits_ink (decimal n) (decimal_is_IsNumeral n small).0.1

pub decimal_back : (n : ℕ) → n < 2 ^ 64 → digits_value 10 (decimal n) ≡ n
decimal_back n small = (decimal_is_IsNumeral n small).1

bit_ink : (d : ℕ) → is_white (48 + d) ≡ false
bit_ink d = grind (arith, nat_tests)

pub bits_ink : (count n : ℕ) → AreInk (bits count n)
bits_ink zero n = tt
bits_ink (suc count) n = ink_append (bits count (n / 2)) ((48 + n % 2) ∷ []) (bits_ink count (n / 2)) (bit_ink (n % 2), tt)

pub bits_length : (count n : ℕ) → length (bits count n) ≡ count
bits_length zero n = refl
bits_length (suc count) n = omega (arith, length-append (bits count (n / 2)) ((48 + n % 2) ∷ []), bits_length count (n / 2))

bit_value : (d : ℕ) → d < 2 → digit_value (48 + d) ≡ d
bit_value d small = omega (arith, digit_value_digit (48 + d) (omega arith, omega arith))

pub bits_back : (count n : ℕ) → n < 2 ^ count → digits_value 2 (bits count n) ≡ n
bits_back zero n small = omega arith
bits_back (suc count) n small =
    digits_value_push 2 (bits count (n / 2)) (48 + n % 2)
    ∙ omega (arith, bits_back count (n / 2) (omega (arith, pow-suc 2 count)), bit_value (n % 2) (omega arith))

-- ---- Words.

pub both_hold : (a b : Bool) → (a && b) ≡ true → (a ≡ true) × (b ≡ true)
both_hold true b is = (refl, is)
both_hold false b is = cc

plain_ink : (b : ℕ) → is_plain b ≡ true → (b == 32) ≡ false → is_white b ≡ false
plain_ink b plain other = grind (arith, nat_tests)

plain_read : (b : ℕ) → is_plain b ≡ true → (b == 92) ≡ false
plain_read b plain = grind (arith, nat_tests)

blank_ink : AreInk (92 ∷ 120 ∷ 50 ∷ 48 ∷ [])
blank_ink = (refl, (refl, (refl, (refl, tt))))

shown_ink : (b : ℕ) → is_plain b ≡ true → AreInk (shown_byte b)
shown_ink b plain = chosen AreInk (b == 32) _ _ (λ _. blank_ink) (λ other. (plain_ink b plain other, tt))

pub words_ink : (bytes : List ℕ) → list_all is_plain bytes ≡ true → AreInk (flat_map shown_byte bytes)
words_ink [] plain = tt
words_ink (b ∷ bytes) plain =
    let both = both_hold (is_plain b) (list_all is_plain bytes) plain in
    ink_append (shown_byte b) (flat_map shown_byte bytes) (shown_ink b both.0) (words_ink bytes both.1)

byte_back : (b : ℕ) (more : List ℕ) → is_plain b ≡ true → words_from 0 (shown_byte b ++ more) ≡ b ∷ words_from 0 more
byte_back b more plain =
    chosen (λ (bytes : List ℕ). words_from 0 (bytes ++ more) ≡ b ∷ words_from 0 more) (b == 32) _ _
    (λ is. ap (λ (x : ℕ). x ∷ words_from 0 more) (sym (eqb-true b 32 is)))
    (λ _. ap (λ (t : Bool). if t then 32 ∷ words_from 3 more else b ∷ words_from 0 more) (plain_read b plain))

pub words_back : (bytes : List ℕ) → list_all is_plain bytes ≡ true → words_from 0 (flat_map shown_byte bytes) ≡ bytes
words_back [] plain = refl
words_back (b ∷ bytes) plain =
    let both = both_hold (is_plain b) (list_all is_plain bytes) plain in
    byte_back b (flat_map shown_byte bytes) both.0 ∙ ap (λ (more : List ℕ). b ∷ more) (words_back bytes both.1)
