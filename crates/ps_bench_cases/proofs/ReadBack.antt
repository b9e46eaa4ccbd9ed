-- A scan line is read as the scan that it was written for.
use Rattle.std.proofs.Common.{◌≡◌, ◌≤◌, ◌<◌, ◌+◌, ◌*◌, ◌-◌, ◌^◌, ◌++◌, ◌∙◌, ◌==◌, ◌&&◌, ℕ, List, [], ◌∷◌, Bool, true, false, not, Option, Some, is_some, if◌then◌else◌, length, map, filter_map, flat_map, fold, codes, decimal, refl, sym, ap, arith, eq-eqb}
use Rattle.std.specs.List.{list_all}
use Rattle.std.specs.Char.{is_ascii_digit}
use Rattle.std.specs.Str.{bytes_eq}
use Rattle.std.proofs.lemmas.Bool.{le-ltb}
use Rattle.std.proofs.lemmas.Bool.Decides.{nat_tests}
use Rattle.std.proofs.lemmas.List.{length-map}
use Rattle.std.proofs.lemmas.Str.Parse.{IsNumeralModel, numerals_by_fold}
use Rattle.std.proofs.lemmas.Fmt.{digits_decimal, digits_value-decimal, decimal_nonempty}
use Rattle.std.proofs.Common.{rules}
use Rattle.ps_base.specs.declared.failing.Rule.TheVariants.{T4, T5, T7}
use Rattle.ps_trace.specs.Words.{is_blank, onto_word, before_words, words, fields, digits_value, number_of}
use Rattle.ps_trace.specs.Trace.{value_of, scan_at_time, scan_line, is_restart, line_said}
use Rattle.ps_trace.specs.Trace.Said.{restarts, scans, breaks}
use Rattle.ps_trace.proofs.Numbers.{number_of-all}
use Rattle.ps_bench_cases.specs.Expanded.{value_text}

-- ---- Digits.

pub both_hold : (a b : Bool) → (a && b) ≡ true → (a ≡ true) × (b ≡ true)
both_hold true b is = (refl, is)
both_hold false b is = cc

-- a digit is no blank, and begins neither a comment nor `restart`
not_blank : (b : ℕ) → is_ascii_digit b ≡ true → is_blank b ≡ false
not_blank b digit = grind (arith, nat_tests)

not_hash : (b : ℕ) → is_ascii_digit b ≡ true → (b == 35) ≡ false
not_hash b digit = grind (arith, nat_tests)

not_restart : (b : ℕ) (word : List ℕ) → is_ascii_digit b ≡ true → bytes_eq (b ∷ word) (codes "restart") ≡ false
not_restart b word digit = grind (arith, nat_tests)

pub digits_of_traces : IsNumeralModel (λ ds. list_all is_ascii_digit ds ≡ true) digits_value
digits_of_traces = numerals_by_fold (λ ds. list_all is_ascii_digit ds ≡ true) (search rules) (λ n ds. fold (λ v d. v * 10 + (d - 48)) n ds) (search rules)

-- a number that was written is read
pub number_back : (n : ℕ) → n ≤ 4294967295 → number_of (decimal n) ≡ Some n
number_back n small =
    let fits : n < 2 ^ 64 = omega arith in
    number_of-all (decimal n) n (decimal_nonempty n fits) (digits_decimal digits_of_traces n fits) (sym (digits_value-decimal digits_of_traces n fits)) (omega arith)

-- ---- Words.

-- a byte before values
one_before : (b : ℕ) (ins : List Bool) → before_words b (flat_map value_text ins) (words (flat_map value_text ins)) ≡ (b ∷ []) ∷ words (flat_map value_text ins)
one_before b [] = refl
one_before b (value ∷ ins) = refl

-- digits before values are a word
digits_before : (b : ℕ) (word : List ℕ) (ins : List Bool) → list_all is_ascii_digit (b ∷ word) ≡ true → words ((b ∷ word) ++ flat_map value_text ins) ≡ (b ∷ word) ∷ words (flat_map value_text ins)
digits_before b [] ins digits =
    let rest = flat_map value_text ins in
    ap (λ (t : Bool). if t then words rest else before_words b rest (words rest)) (not_blank b (both_hold (is_ascii_digit b) true digits).0) ∙ one_before b ins
digits_before b (c ∷ word) ins digits =
    let both = both_hold (is_ascii_digit b) (list_all is_ascii_digit (c ∷ word)) digits in
    let rest = (c ∷ word) ++ flat_map value_text ins in
    ap (λ (t : Bool). if t then words rest else before_words b rest (words rest)) (not_blank b both.0)
    ∙ ap (λ (t : Bool). if t then (b ∷ []) ∷ words rest else onto_word b (words rest)) (not_blank c (both_hold (is_ascii_digit c) (list_all is_ascii_digit word) both.1).0)
    ∙ ap (onto_word b) (digits_before c word ins both.1)

-- the word of a value
one_word : Bool → List ℕ
one_word true = 49 ∷ []
one_word false = 48 ∷ []

values_words : (ins : List Bool) → words (flat_map value_text ins) ≡ map one_word ins
unfolding one_word
values_words [] = refl
values_words (true ∷ ins) = one_before 49 ins ∙ ap (λ (ws : List (List ℕ)). (49 ∷ []) ∷ ws) (values_words ins)
values_words (false ∷ ins) = one_before 48 ins ∙ ap (λ (ws : List (List ℕ)). (48 ∷ []) ∷ ws) (values_words ins)

values_back : (ins : List Bool) → filter_map value_of (map one_word ins) ≡ ins
unfolding one_word
values_back [] = refl
values_back (true ∷ ins) = ap (λ (bs : List Bool). true ∷ bs) (values_back ins)
values_back (false ∷ ins) = ap (λ (bs : List Bool). false ∷ bs) (values_back ins)

all_values : (ins : List Bool) → list_all (λ word. is_some (value_of word)) (map one_word ins) ≡ true
unfolding one_word
all_values [] = refl
all_values (true ∷ ins) = all_values ins
all_values (false ∷ ins) = all_values ins

-- digits are no restart
no_restart : (b : ℕ) (word : List ℕ) (ins : List Bool) → is_ascii_digit b ≡ true → is_restart (b ∷ word) (map one_word ins) ≡ false
no_restart b word [] digit = not_restart b word digit
no_restart b word (value ∷ ins) digit = refl

-- ---- A scan line.

line_back : (digits : List ℕ) (now last : ℕ) (ins : List Bool) → 0 < length digits → list_all is_ascii_digit digits ≡ true → number_of digits ≡ Some now → last ≤ now →
    line_said (length ins) last (fields (digits ++ flat_map value_text ins)) ≡ scans now ins
line_back [] now last ins some are number on = absurd (omega arith)
line_back (b ∷ word) now last ins some are number on =
    let digit = (both_hold (is_ascii_digit b) (list_all is_ascii_digit word) are).0 in
    let all = (b ∷ word) ++ flat_map value_text ins in
    let values = map one_word ins in
    let found : fields all ≡ (b ∷ word) ∷ values =
    ap (λ (t : Bool). if t then [] else words all) (not_hash b digit) ∙ digits_before b word ins are ∙ ap (λ (ws : List (List ℕ)). (b ∷ word) ∷ ws) (values_words ins) in
    ap (line_said (length ins) last) found
    ∙ ap (λ (t : Bool). if t then restarts else scan_line (length ins) last (b ∷ word) values) (no_restart b word ins digit)
    ∙ ap (λ (t : Bool). if not t then breaks T4 else (if not (list_all (λ w. is_some (value_of w)) values) then breaks T5 else scan_at_time last (number_of (b ∷ word)) (filter_map value_of values)))
    (eq-eqb (length values) (length ins) (length-map ins one_word))
    ∙ ap (λ (t : Bool). if not t then breaks T5 else scan_at_time last (number_of (b ∷ word)) (filter_map value_of values)) (all_values ins)
    ∙ ap (λ (n : Option ℕ). scan_at_time last n (filter_map value_of values)) number
    ∙ ap (scan_at_time last (Some now)) (values_back ins)
    ∙ ap (λ (t : Bool). if t then breaks T7 else scans now ins) (le-ltb now last on)

pub scan_back : (now last : ℕ) (ins : List Bool) → now ≤ 4294967295 → last ≤ now → line_said (length ins) last (fields (decimal now ++ flat_map value_text ins)) ≡ scans now ins
scan_back now last ins small on =
    let fits : now < 2 ^ 64 = omega arith in
    line_back (decimal now) now last ins (decimal_nonempty now fits) (digits_decimal digits_of_traces now fits) (number_back now small) on
