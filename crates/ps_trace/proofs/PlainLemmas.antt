-- A time and values that stand after one blank each.
use Rattle.std.proofs.Common.{◌≡◌, ◌<◌, ◌≤◌, ◌+◌, ◌*◌, ◌==◌, ◌++◌, ℕ, List, [], ◌∷◌, Bool, true, false, is_some, length, map, take, drop, slice_set, slice_index, refl, sym, subst, ◌∙◌, ap, arith, length-take}
use Rattle.std.proofs.lemmas.Grind.{common_steps}
use Rattle.std.proofs.lemmas.Bool.{and_parts}
use Rattle.std.proofs.lemmas.List.{append_assoc, take_more, take_more_set, take-append-drop}
use Rattle.std.specs.List.{list_all, filter_map}
use Rattle.std.specs.Char.{is_ascii_digit}
use Rattle.ps_trace.specs.Words.{is_blank, words, fields, digits_value}
use Rattle.ps_trace.specs.Trace.{value_of}
use Rattle.ps_trace.specs.LineSays.{word_of, is_pair, spaced, IsApart, IsNumbered, IsPlain, IsSpacedTo}
use Rattle.ps_trace.proofs.WordLemmas.{words-blank, words-one, words-more}
use Rattle.ps_trace.proofs.Numbers.{number_of-all, number_of-parts}

-- the value after a blank is the first word
pub words-value : (blank : ℕ) (value : Bool) (bytes behind : List ℕ) → is_blank blank ≡ true → bytes ≡ blank ∷ (word_of value ++ behind) → IsApart behind →
    words bytes ≡ word_of value ∷ words behind
words-value blank false bytes behind plain is apart = ap words is ∙ words-blank blank (48 ∷ behind) plain ∙ words-one 48 behind refl apart
words-value blank true bytes behind plain is apart = ap words is ∙ words-blank blank (49 ∷ behind) plain ∙ words-one 49 behind refl apart

-- each of these words is a value
pub proper-plain : (values : List Bool) → list_all (λ word. is_some (value_of word)) (map word_of values) ≡ true
proper-plain [] = refl
proper-plain (false ∷ values) = proper-plain values
proper-plain (true ∷ values) = proper-plain values

-- and they are these values
pub values-plain : (values : List Bool) → filter_map value_of (map word_of values) ≡ values
values-plain [] = refl
values-plain (false ∷ values) = ap (λ (t : List Bool). false ∷ t) (values-plain values)
values-plain (true ∷ values) = ap (λ (t : List Bool). true ∷ t) (values-plain values)

-- values after one space each end no word in front of them
pub apart-spaced : (values : List Bool) → IsApart (spaced values)
apart-spaced [] some = absurd (omega arith)
apart-spaced (value ∷ values) some = refl

-- and their words are these values
pub words-spaced : (values : List Bool) → words (spaced values) ≡ map word_of values
words-spaced [] = refl
words-spaced (value ∷ values) =
    words-value 32 value (spaced (value ∷ values)) (spaced values) refl refl (apart-spaced values) ∙ ap (λ (t : List (List ℕ)). word_of value ∷ t) (words-spaced values)

spaced-append : (values others : List Bool) → spaced (values ++ others) ≡ spaced values ++ spaced others
spaced-append [] others = refl
spaced-append (value ∷ values) others =
    ap (λ (t : List ℕ). 32 ∷ (word_of value ++ t)) (spaced-append values others)
    ∙ ap (λ (t : List ℕ). 32 ∷ t) (sym (append_assoc (word_of value) (spaced values) (spaced others)))

-- a pair is its value after a space
pair_spaced : (space digit : ℕ) → is_pair space digit ≡ true → space ∷ digit ∷ [] ≡ spaced ((digit == 49) ∷ [])
pair_spaced space digit pair = grind (arith, common_steps)

-- one pair more
pub spaced-more : (bytes : List ℕ) (at next : ℕ) (values : List Bool) (value : Bool) → next ≡ at + 1 → at < length values → 2 * next ≤ length bytes →
    is_pair (slice_index bytes (2 * at)) (slice_index bytes (2 * at + 1)) ≡ true → value ≡ (slice_index bytes (2 * at + 1) == 49) →
    IsSpacedTo bytes at values → IsSpacedTo bytes next (slice_set values at value)
spaced-more bytes at next values value behind place within pair is before =
    let space = slice_index bytes (2 * at) in
    let digit = slice_index bytes (2 * at + 1) in
    let first = take_more bytes (2 * at) 0 (omega arith) in
    let second = take_more bytes (2 * at + 1) 0 (omega arith) in
    let count : 2 * next ≡ 2 * at + 1 + 1 = omega arith in
    ap (λ (n : ℕ). take n bytes) count ∙ second ∙ ap (λ (t : List ℕ). t ++ (digit ∷ [])) (first ∙ ap (λ (t : List ℕ). t ++ (space ∷ [])) before)
    ∙ append_assoc (spaced (take at values)) (space ∷ []) (digit ∷ [])
    ∙ ap (λ (t : List ℕ). spaced (take at values) ++ t) (pair_spaced space digit pair ∙ ap (λ (v : Bool). spaced (v ∷ [])) (sym is))
    ∙ sym (ap (λ (n : ℕ). spaced (take n (slice_set values at value))) behind ∙ ap spaced (take_more_set values at value place)
    ∙ spaced-append (take at values) (value ∷ []))

-- a digit is no blank
digit_apart : (b : ℕ) → is_ascii_digit b ≡ true → is_blank b ≡ false
digit_apart b digit = grind (arith, common_steps)

-- digits up to a blank or the end are a word
pub words-digits : (digits behind : List ℕ) → 0 < length digits → list_all is_ascii_digit digits ≡ true → IsApart behind → words (digits ++ behind) ≡ digits ∷ words behind
words-digits [] behind some all apart = absurd (omega arith)
words-digits (b ∷ []) behind some all apart =
    let first = and_parts (is_ascii_digit b) (list_all is_ascii_digit []) all in
    words-one b behind (digit_apart b first.0) apart
words-digits (b ∷ c ∷ digits) behind some all apart =
    let first = and_parts (is_ascii_digit b) (list_all is_ascii_digit (c ∷ digits)) all in
    let second = and_parts (is_ascii_digit c) (list_all is_ascii_digit digits) first.1 in
    words-more b c (digits ++ behind) (c ∷ digits) (words behind) (digit_apart b first.0) (digit_apart c second.0) (words-digits (c ∷ digits) behind (omega arith) first.1 apart)

-- a line that begins with a digit counts
fields-digits : (digits behind : List ℕ) → 0 < length digits → list_all is_ascii_digit digits ≡ true → fields (digits ++ behind) ≡ words (digits ++ behind)
fields-digits [] behind some all = absurd (omega arith)
fields-digits (b ∷ digits) behind some all =
    let first = and_parts (is_ascii_digit b) (list_all is_ascii_digit digits) all in
    let digit : is_ascii_digit b ≡ true = first.0 in
    grind (arith, common_steps)

-- a line that begins with digits, with values after them
pub plain-line : (line behind : List ℕ) (now : ℕ) (values : List Bool) → IsNumbered line now behind → behind ≡ spaced values → IsPlain line now values
plain-line line behind now values numbered is =
    let apart : IsApart behind = subst IsApart (sym is) (apart-spaced values) in
    let values_are : words behind ≡ map word_of values = ap words is ∙ words-spaced values in
    let digits = number_of-parts numbered.digits now numbered.number in
    record {
      time = numbered.digits;
      whole = ap fields numbered.whole ∙ fields-digits numbered.digits behind digits.0 digits.1 ∙ words-digits numbered.digits behind digits.0 digits.1 apart
          ∙ ap (λ (t : List (List ℕ)). numbered.digits ∷ t) values_are;
      number = numbered.number;
    }

-- the digits before a place, with the bytes after them
pub numbered-at : (bytes behind : List ℕ) (end value : ℕ) → 0 < end → end ≤ length bytes → list_all is_ascii_digit (take end bytes) ≡ true → value ≡ digits_value (take end bytes) →
    value < 4294967296 → behind ≡ drop end bytes → IsNumbered bytes value behind
numbered-at bytes behind end value some within digits is fits rest = record {
  digits = take end bytes;
  whole = sym (take-append-drop end bytes) ∙ ap (λ (t : List ℕ). take end bytes ++ t) (sym rest);
  number = number_of-all (take end bytes) value (omega (arith, length-take end bytes)) digits is fits;
}
