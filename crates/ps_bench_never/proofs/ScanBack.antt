-- A scan of a case is read as it was written.
use Rattle.std.proofs.Common.{◌≡◌, ◌≢◌, ◌≤◌, ◌<◌, ◌+◌, ◌^◌, ◌++◌, ◌∙◌, ◌==◌, ◌&&◌, ◌||◌, ℕ, zero, suc, List, [], ◌∷◌, Bool, true, false, not, Some, None, Result, Ok, if◌then◌else◌, length, map, take, drop, get_or, fold, flat_map, decimal, nat_lt, refl, sym, ap, subst, arith, below_more, get_or-set_other, get_or-set_same, append_assoc}
use Rattle.std.specs.Prelude.{slice_set}
use Rattle.std.specs.List.{list_all, list_any, position_from, position_or_len, prefix_len, range_with_len}
use Rattle.std.specs.Char.{is_ascii_digit}
use Rattle.std.proofs.lemmas.Grind.{common_steps}
use Rattle.std.proofs.lemmas.Bool.Decides.{nat_tests}
use Rattle.std.proofs.lemmas.Fmt.{decimal_nonempty, digits_decimal}
use Rattle.std.proofs.Math.ListN.{length-set}
use Rattle.std.proofs.lemmas.List.{append-nil, ext_get_or, get_or-map, get_or_append_left, length-append, length-map}
use Rattle.ps_base.specs.LetterCase.{SameName, is_same_name}
use Rattle.ps_model.specs.declared.named.Signal.{Signal}
use Rattle.ps_model.specs.Network.{Network, declared_count, declared_signals, input_count, names, no_signal, signal_name}
use Rattle.ps_model.specs.Sound.{IsSound}
use Rattle.ps_model.specs.declared.channel.ImageSizes.{ImageSizes}
use Rattle.ps_trace.specs.Words.{before_words, is_blank, number_of, onto_word, words}
use Rattle.ps_trace.proofs.HeaderLemmas.{same_name}
use Rattle.ps_bench_names.specs.Names.{has_equals, input_in, is_equals, name_part, number_named, signal_names, value_part}
use Rattle.ps_bench_names.specs.Words.{counted, is_digits, words_in}
use Rattle.ps_bench_names.specs.declared.name.Setting.{Setting}
use Rattle.ps_bench_cases.proofs.ReadBack.{both_hold, digits_of_traces, number_back}
use Rattle.ps_bench_cases.specs.File.{act_after, said_after}
use Rattle.ps_bench_cases.specs.Stands.{one_scan, unless_over}
use Rattle.ps_bench_cases.specs.Line.{line_said, said_by_words, settings_said}
use Rattle.ps_bench_cases.specs.Meant.{set_by}
use Rattle.ps_bench_cases.specs.Parts.{and_then}
use Rattle.ps_bench_cases.specs.Words.{number_said, setting_said}
use Rattle.ps_bench_cases.specs.declared.rule.CaseRule.{CaseRule}
use Rattle.ps_bench_never.specs.Casing.{change_text, scan_line}
use Rattle.ps_bench_never.specs.Pieces.{signal_text}
use Rattle.ps_bench_never.specs.ReadBack.{HasPlainNames, IsReadAsScan, ScanIsRead, is_of_name, with_these}

-- ---- Words.

-- words, each after a space
abbrev pub spaced : List (List ℕ) → List ℕ
spaced ws = flat_map (λ w. 32 ∷ w) ws

-- no byte of a word is a blank
abbrev pub is_unbroken : List ℕ → Bool
is_unbroken w = list_all (λ b. not (is_blank b)) w

not_true : (a : Bool) → not a ≡ true → a ≡ false
not_true true is = cc
not_true false is = refl

one_before : (b : ℕ) (ws after : List (List ℕ)) → before_words b (spaced ws) after ≡ (b ∷ []) ∷ after
one_before b [] after = refl
one_before b (w ∷ ws) after = refl

-- a word before others
pub word_before : (b : ℕ) (word : List ℕ) (ws : List (List ℕ)) → is_unbroken (b ∷ word) ≡ true →
    words ((b ∷ word) ++ spaced ws) ≡ (b ∷ word) ∷ words (spaced ws)
word_before b [] ws plain =
    ap (λ (t : Bool). if t then words (spaced ws) else before_words b (spaced ws) (words (spaced ws))) (not_true (is_blank b) (both_hold (not (is_blank b)) true plain).0)
    ∙ one_before b ws (words (spaced ws))
word_before b (c ∷ word) ws plain =
    let both = both_hold (not (is_blank b)) (is_unbroken (c ∷ word)) plain in
    let rest = (c ∷ word) ++ spaced ws in
    ap (λ (t : Bool). if t then words rest else before_words b rest (words rest)) (not_true (is_blank b) both.0)
    ∙ ap (λ (t : Bool). if t then (b ∷ []) ∷ words rest else onto_word b (words rest)) (not_true (is_blank c) (both_hold (not (is_blank c)) (is_unbroken word) both.1).0)
    ∙ ap (onto_word b) (word_before c word ws both.1)

-- a word that is no comment, and has no blank
pub data IsPlain : List ℕ → Type 0 where
  plain : (b : ℕ) (word : List ℕ) → is_unbroken (b ∷ word) ≡ true → (b == 35) ≡ false → IsPlain (b ∷ word)

-- each of these is
abbrev pub ArePlain : List (List ℕ) → Type 0
ArePlain [] = Unit {0}
ArePlain (w ∷ ws) = IsPlain w × ArePlain ws

first_word : (w : List ℕ) (ws : List (List ℕ)) → IsPlain w → words (w ++ spaced ws) ≡ w ∷ words (spaced ws)
first_word _ ws (plain b word unbroken hash) = word_before b word ws unbroken

first_counts : (w : List ℕ) (ws : List (List ℕ)) → IsPlain w → counted (w ∷ ws) ≡ w ∷ counted ws
first_counts _ ws (plain b word unbroken hash) = ap (λ (t : Bool). if t then [] else (b ∷ word) ∷ counted ws) hash

-- all of them are the words that count
pub all_count : (ws : List (List ℕ)) → ArePlain ws → words_in (spaced ws) ≡ ws
all_count [] are = refl
all_count (w ∷ ws) are =
    ap counted (first_word w ws are.0) ∙ first_counts w (words (spaced ws)) are.0 ∙ ap (λ (rest : List (List ℕ)). w ∷ rest) (all_count ws are.1)

-- ---- Digits.

digits_unbroken : (ds : List ℕ) → list_all is_ascii_digit ds ≡ true → is_unbroken ds ≡ true
digits_unbroken [] are = refl
digits_unbroken (d ∷ ds) are =
    let both = both_hold (is_ascii_digit d) (list_all is_ascii_digit ds) are in
    let digit : is_ascii_digit d ≡ true = both.0 in
    let first : not (is_blank d) ≡ true = grind (arith, nat_tests) in
    ap (λ (t : Bool). t && is_unbroken ds) first ∙ digits_unbroken ds both.1

pub number_is_said : (n : ℕ) → n ≤ 4294967295 → number_said (decimal n) ≡ Ok n
number_is_said n small =
    let fits : n < 2 ^ 64 = omega arith in
    let some : 0 < length (decimal n) = decimal_nonempty n fits in
    let first : nat_lt 0 (length (decimal n)) ≡ true = grind (arith, nat_tests) in
    let digits : list_all is_ascii_digit (decimal n) ≡ true = digits_decimal digits_of_traces n fits in
    let is : is_digits (decimal n) ≡ true = ap (λ (t : Bool). t && list_all is_ascii_digit (decimal n)) first ∙ digits in
    let number : number_of (decimal n) ≡ Some n = number_back n small in
    grind (arith, common_steps)

-- the word of a gap
pub gap_plain : (n : ℕ) → n ≤ 4294967295 → IsPlain (43 ∷ decimal n)
gap_plain n small =
    let fits : n < 2 ^ 64 = omega arith in
    plain 43 (decimal n) (digits_unbroken (decimal n) (digits_decimal digits_of_traces n fits)) refl

-- ---- A setting.

-- bytes of a name end no word and hold no `=`
name_byte : (b : ℕ) → is_of_name b ≡ true → (not (is_blank b) ≡ true) × ((b == 35) ≡ false) × ((b == 61) ≡ false)
name_byte b is =
    let both = both_hold (nat_lt 32 b) (not (b == 35 || b == 61)) is in
    let large : nat_lt 32 b ≡ true = both.0 in
    let other : not (b == 35 || b == 61) ≡ true = both.1 in
    (grind (arith, nat_tests), grind (arith, nat_tests), grind (arith, nat_tests))

module _ (value : List ℕ) where
  -- a name and a value after `=`
  abbrev pub with_value : List ℕ → List ℕ
  with_value name = name ++ 61 ∷ value

  pub has : (name : List ℕ) → has_equals (with_value name) ≡ true
  has [] = refl
  has (b ∷ name) = let rest : list_any is_equals (with_value name) ≡ true = has name in grind (arith, common_steps)

  place : (name : List ℕ) → list_all is_of_name name ≡ true → position_or_len is_equals (with_value name) ≡ length name
  place [] are = refl
  place (b ∷ name) are =
      let both = both_hold (is_of_name b) (list_all is_of_name name) are in
      let other : (b == 61) ≡ false = (name_byte b both.0).2 in
      let rest : prefix_len (λ x. not (is_equals x)) (with_value name) ≡ length name = place name both.1 in
      grind (arith, common_steps)

  front : (name : List ℕ) → take (length name) (with_value name) ≡ name
  front [] = refl
  front (b ∷ name) = ap (λ (bytes : List ℕ). b ∷ bytes) (front name)

  back : (name : List ℕ) → drop (suc (length name)) (with_value name) ≡ value
  back [] = refl
  back (b ∷ name) = back name

  pub name_read : (name : List ℕ) → list_all is_of_name name ≡ true → name_part (with_value name) ≡ name
  name_read name are = ap (λ (n : ℕ). take n (with_value name)) (place name are) ∙ front name

  pub value_read : (name : List ℕ) → list_all is_of_name name ≡ true → value_part (with_value name) ≡ value
  value_read name are =
      let next : length name + 1 ≡ suc (length name) = omega arith in
      ap (λ (n : ℕ). drop (n + 1) (with_value name)) (place name are) ∙ ap (λ (n : ℕ). drop n (with_value name)) next ∙ back name

  unbroken_value : is_unbroken value ≡ true → (name : List ℕ) → list_all is_of_name name ≡ true → is_unbroken (with_value name) ≡ true
  unbroken_value is [] are = is
  unbroken_value is (b ∷ name) are =
      let both = both_hold (is_of_name b) (list_all is_of_name name) are in
      ap (λ (t : Bool). t && is_unbroken (with_value name)) (name_byte b both.0).0 ∙ unbroken_value is name both.1

  pub plain_value : is_unbroken value ≡ true → (name : List ℕ) → list_all is_of_name name ≡ true → IsPlain (with_value name)
  plain_value is [] are = plain 61 value is refl
  plain_value is (b ∷ name) are =
      plain b (with_value name) (unbroken_value is (b ∷ name) are) (name_byte b (both_hold (is_of_name b) (list_all is_of_name name) are).0).1

-- ---- Names.

-- the first name that is a word
first_named : (q : List ℕ) (ns : List (List ℕ)) (i j k : ℕ) → j + i ≡ k → i < length ns → is_same_name q (get_or ns i []) ≡ true →
    ((l : ℕ) → l < i → is_same_name q (get_or ns l []) ≡ false) → position_from (is_same_name q) j ns ≡ Some k
first_named q [] i j k at inside is differ = absurd (omega (arith, inside))
first_named q (n ∷ ns) zero j k at inside is differ =
    let same : j ≡ k = omega (arith, at) in
    ap (λ (t : Bool). if t then Some j else position_from (is_same_name q) (j + 1) ns) is ∙ ap (λ (m : ℕ). Some m) same
first_named q (n ∷ ns) (suc i) j k at inside is differ =
    ap (λ (t : Bool). if t then Some j else position_from (is_same_name q) (j + 1) ns) (differ 0 (omega arith))
    ∙ first_named q ns i (j + 1) k (omega (arith, at)) (omega (arith, inside)) is (λ l below. differ (suc l) (omega (arith, below)))

module _ (net : Network) (sound : IsSound net) (plain_names : HasPlainNames net) where
  abbrev declared : List (List ℕ)
  declared = map (λ (s : Signal). s.name) (declared_signals net)

  declared_size : length declared ≡ declared_count net
  declared_size =
      omega (
        arith,
        length-map (declared_signals net) (λ (s : Signal). s.name),
        length-append net.inputs (net.outputs ++ net.locals),
        length-append net.outputs net.locals,
      )

  all_size : length (names net) ≡ length declared + length net.instances
  all_size = length-append declared (map (λ i. i.name) net.instances) ∙ ap (λ (n : ℕ). length declared + n) (length-map net.instances (λ i. i.name))

  -- a declared signal stands at its place among all names
  at_place : (s : ℕ) → s < declared_count net → get_or (names net) s [] ≡ get_or declared s []
  at_place s inside = get_or_append_left declared (map (λ i. i.name) net.instances) [] s (omega (arith, inside, declared_size))

  has_name : (s : ℕ) → s < declared_count net → get_or declared s [] ≡ signal_name net s
  has_name s inside =
      get_or-map (λ (s : Signal). s.name) (declared_signals net) s no_signal []
      (omega (arith, inside, declared_size, length-map (declared_signals net) (λ (s : Signal). s.name)))

  text_is : (s : ℕ) → s < declared_count net → signal_text net s ≡ signal_name net s
  text_is s inside =
      let yes : nat_lt s (declared_count net) ≡ true = grind (arith, nat_tests) in
      ap (λ (t : Bool). if t then signal_name net s else []) yes

  pub text_plain : (s : ℕ) → s < declared_count net → list_all is_of_name (signal_text net s) ≡ true
  text_plain s inside =
      ap (list_all is_of_name) (text_is s inside ∙ sym (has_name s inside) ∙ sym (at_place s inside))
      ∙ plain_names s [] (omega (arith, inside, declared_size, all_size))

  differs : (s t : ℕ) → s < declared_count net → t < s → is_same_name (get_or declared s []) (get_or declared t []) ≡ false
  differs s t inside below =
      let apart : ¬ (SameName (get_or declared t []) (get_or declared s [])) =
      subst (λ (a : List ℕ). ¬ (SameName a (get_or declared s []))) (at_place t (omega (arith, inside, below)))
      (subst (λ (b : List ℕ). ¬ (SameName (get_or (names net) t []) b)) (at_place s inside)
      (sound.names_differ t s [] below (omega (arith, inside, declared_size, all_size)))) in
      same_name false (get_or declared s []) (get_or declared t []) (λ no. cc, λ same. absurd (apart (sym same)))

  -- its name is found at its place
  pub found : (s : ℕ) → s < declared_count net → number_named (signal_names net) (signal_text net s) ≡ Some s
  found s inside =
      let q = get_or declared s [] in
      ap (number_named (signal_names net)) (text_is s inside ∙ sym (has_name s inside))
      ∙ first_named q declared s 0 s (omega arith) (omega (arith, inside, declared_size)) (same_name true q q (λ t. refl, λ t. refl))
      (λ l below. differs s l inside below)

  few : (i : ℕ) → i < input_count net → i < declared_count net
  few i inside = omega (arith, inside)

  input_found : (i : ℕ) → i < input_count net → input_in net (Some i) ≡ Some i
  input_found i inside =
      let yes : nat_lt i (input_count net) ≡ true = grind (arith, nat_tests) in
      ap (λ (t : Bool). if t then Some i else None) yes

  -- the word of a value
  abbrev digit : Bool → List ℕ
  digit true = 49 ∷ []
  digit false = 48 ∷ []

  -- the word of an input that takes a value
  abbrev word_of : ℕ → Bool → List ℕ
  word_of i value = signal_text net i ++ 61 ∷ digit value

  abbrev setting_of : ℕ → Bool → Setting
  setting_of i value = record { input = i; value = value }

  word_read : (i : ℕ) (value : Bool) → i < input_count net → setting_said net (word_of i value) ≡ Ok (setting_of i value)
  word_read i true inside =
      let name = signal_text net i in
      let are : list_all is_of_name name ≡ true = text_plain i (few i inside) in
      let has_it : has_equals (word_of i true) ≡ true = has (49 ∷ []) name in
      let name_is : name_part (word_of i true) ≡ name = name_read (49 ∷ []) name are in
      let value_is : value_part (word_of i true) ≡ 49 ∷ [] = value_read (49 ∷ []) name are in
      let found_is : number_named (signal_names net) name ≡ Some i = found i (few i inside) in
      let input_is : input_in net (Some i) ≡ Some i = input_found i inside in
      rw (has_it, name_is, value_is, found_is, input_is) refl
  word_read i false inside =
      let name = signal_text net i in
      let are : list_all is_of_name name ≡ true = text_plain i (few i inside) in
      let has_it : has_equals (word_of i false) ≡ true = has (48 ∷ []) name in
      let name_is : name_part (word_of i false) ≡ name = name_read (48 ∷ []) name are in
      let value_is : value_part (word_of i false) ≡ 48 ∷ [] = value_read (48 ∷ []) name are in
      let found_is : number_named (signal_names net) name ≡ Some i = found i (few i inside) in
      let input_is : input_in net (Some i) ≡ Some i = input_found i inside in
      rw (has_it, name_is, value_is, found_is, input_is) refl

  word_plain : (i : ℕ) (value : Bool) → i < input_count net → IsPlain (word_of i value)
  word_plain i true inside = plain_value (49 ∷ []) refl (signal_text net i) (text_plain i (few i inside))
  word_plain i false inside = plain_value (48 ∷ []) refl (signal_text net i) (text_plain i (few i inside))

  -- ---- The settings of a line.
  module _ (before values : List Bool) where
    -- the words and settings of an input, and then of others, where it was that and is this
    abbrev pub words_onto : ℕ → (was is : Bool) → List (List ℕ) → List (List ℕ)
    words_onto i true true rest = rest
    words_onto i true false rest = word_of i false ∷ rest
    words_onto i false true rest = word_of i true ∷ rest
    words_onto i false false rest = rest

    abbrev pub settings_onto : ℕ → (was is : Bool) → List Setting → List Setting
    settings_onto i true true rest = rest
    settings_onto i true false rest = setting_of i false ∷ rest
    settings_onto i false true rest = setting_of i true ∷ rest
    settings_onto i false false rest = rest

    -- those of the inputs from one on
    abbrev pub words_from : (a n : ℕ) → List (List ℕ)
    words_from a zero = []
    words_from a (suc n) = words_onto a (get_or before a false) (get_or values a false) (words_from (a + 1) n)

    abbrev pub settings_from : (a n : ℕ) → List Setting
    settings_from a zero = []
    settings_from a (suc n) = settings_onto a (get_or before a false) (get_or values a false) (settings_from (a + 1) n)

    piece : (i : ℕ) (was is : Bool) (rest : List (List ℕ)) → change_text net i was is ++ spaced rest ≡ spaced (words_onto i was is rest)
    piece i true true rest = refl
    piece i true false rest = refl
    piece i false true rest = refl
    piece i false false rest = refl

    -- what is written of them
    pub pieces : (a n : ℕ) → flat_map (λ i. change_text net i (get_or before i false) (get_or values i false)) (range_with_len a n) ≡ spaced (words_from a n)
    pieces a zero = refl
    pieces a (suc n) =
        ap (λ (t : List ℕ). change_text net a (get_or before a false) (get_or values a false) ++ t) (pieces (a + 1) n)
        ∙ piece a (get_or before a false) (get_or values a false) (words_from (a + 1) n)

    plain_onto : (i : ℕ) (was is : Bool) (rest : List (List ℕ)) → i < input_count net → ArePlain rest → ArePlain (words_onto i was is rest)
    plain_onto i true true rest inside are = are
    plain_onto i true false rest inside are = (word_plain i false inside, are)
    plain_onto i false true rest inside are = (word_plain i true inside, are)
    plain_onto i false false rest inside are = are

    all_plain : (a n : ℕ) → a + n ≤ input_count net → ArePlain (words_from a n)
    all_plain a zero inside = tt
    all_plain a (suc n) inside =
        plain_onto a (get_or before a false) (get_or values a false) (words_from (a + 1) n) (omega (arith, inside)) (all_plain (a + 1) n (omega (arith, inside)))

    -- ---- What is read of them.

    -- words are settings after others
    abbrev AreRead : List (List ℕ) → List Setting → Type 0
    AreRead ws ss = (done : List Setting) → fold (λ found word. and_then found (setting_said net word)) (Ok done) ws ≡ Ok (done ++ ss)

    one_read : (i : ℕ) (value : Bool) (ws : List (List ℕ)) (ss : List Setting) → i < input_count net → AreRead ws ss → AreRead (word_of i value ∷ ws) (setting_of i value ∷ ss)
    one_read i value ws ss inside rest done =
        ap (λ (r : Result Setting CaseRule). fold (λ found word. and_then found (setting_said net word)) (and_then (Ok done) r) ws) (word_read i value inside)
        ∙ rest (done ++ setting_of i value ∷ []) ∙ ap (λ (all : List Setting). Ok all) (append_assoc done (setting_of i value ∷ []) ss)

    read_onto : (i : ℕ) (was is : Bool) (ws : List (List ℕ)) (ss : List Setting) → i < input_count net → AreRead ws ss → AreRead (words_onto i was is ws) (settings_onto i was is ss)
    read_onto i true true ws ss inside rest = rest
    read_onto i true false ws ss inside rest = one_read i false ws ss inside rest
    read_onto i false true ws ss inside rest = one_read i true ws ss inside rest
    read_onto i false false ws ss inside rest = rest

    all_read : (a n : ℕ) → a + n ≤ input_count net → AreRead (words_from a n) (settings_from a n)
    all_read a zero inside = λ done. ap (λ (all : List Setting). Ok all) (sym (append-nil done))
    all_read a (suc n) inside =
        read_onto a (get_or before a false) (get_or values a false) (words_from (a + 1) n) (settings_from (a + 1) n) (omega (arith, inside))
        (all_read (a + 1) n (omega (arith, inside)))

    -- ---- What they set.

    -- the inputs before one have the new values, and the others the old ones
    pub record IsHalf (a : ℕ) (ins : List Bool) : Type 0 where
      pub new : (j : ℕ) → j < a → get_or ins j false ≡ get_or values j false
      pub old : (j : ℕ) → a ≤ j → get_or ins j false ≡ get_or before j false
      pub size : length ins ≡ length values

    kept_half : (a : ℕ) (ins : List Bool) → get_or before a false ≡ get_or values a false → IsHalf a ins → IsHalf (a + 1) ins
    kept_half a ins same half = record {
      new = below_more (λ (j : ℕ). get_or ins j false ≡ get_or values j false) a half.new (half.old a (omega arith) ∙ same);
      old = λ j above. half.old j (omega (arith, above));
      size = half.size;
    }

    set_half : (a : ℕ) (value : Bool) (ins : List Bool) → a < length values → value ≡ get_or values a false → IsHalf a ins → IsHalf (a + 1) (slice_set ins a value)
    set_half a value ins inside is half =
        let within : a < length ins = omega (arith, inside, half.size) in
        record {
          new = below_more (λ (j : ℕ). get_or (slice_set ins a value) j false ≡ get_or values j false) a
              (λ j below. let other : j ≢ a = omega (arith, below) in get_or-set_other ins a j value false other ∙ half.new j below)
              (get_or-set_same ins a value false within ∙ is);
          old = λ j above. let other : j ≢ a = omega (arith, above) in get_or-set_other ins a j value false other ∙ half.old j (omega (arith, above));
          size = length-set ins a value ∙ half.size;
        }

    -- settings make the new values of those before an input
    abbrev pub Sets : (a : ℕ) → List Setting → Type 0
    Sets a ss = (ins : List Bool) → IsHalf a ins → set_by ins ss ≡ values

    sets_onto : (a : ℕ) (was is : Bool) (ss : List Setting) → a < length values → get_or before a false ≡ was → get_or values a false ≡ is → Sets (a + 1) ss → Sets a (settings_onto a was is ss)
    sets_onto a true true ss inside was is rest ins half = rest ins (kept_half a ins (was ∙ sym is) half)
    sets_onto a true false ss inside was is rest ins half = rest (slice_set ins a false) (set_half a false ins inside (sym is) half)
    sets_onto a false true ss inside was is rest ins half = rest (slice_set ins a true) (set_half a true ins inside (sym is) half)
    sets_onto a false false ss inside was is rest ins half = rest ins (kept_half a ins (was ∙ sym is) half)

    pub all_set : (a n : ℕ) → a + n ≡ length values → Sets a (settings_from a n)
    all_set a zero all = λ ins half.
        ext_get_or false ins values half.size (λ j below. half.new j (omega (arith, below, all, half.size)))
    all_set a (suc n) all =
        sets_onto a (get_or before a false) (get_or values a false) (settings_from (a + 1) n) (omega (arith, all)) refl refl (all_set (a + 1) n (omega (arith, all)))

  -- ---- The line.

  -- what a number of ms asks for, with these settings
  said_with : (gap : ℕ) → gap ≤ 4294967295 → (line alone : List ℕ) (ws : List (List ℕ)) (settings : List Setting) → settings_said net ws ≡ Ok settings →
      said_by_words net line ((43 ∷ decimal gap) ∷ ws) ≡ with_these settings (said_by_words net alone ((43 ∷ decimal gap) ∷ []))
  said_with gap small line alone ws settings read =
      let number : number_said (decimal gap) ≡ Ok gap = number_is_said gap small in rw (number, read) refl

  done_by : (sizes : ImageSizes) (d : _) (number gap : ℕ) → gap ≤ 4294967295 → (line : List ℕ) (ws : List (List ℕ)) (settings : List Setting) →
      settings_said net ws ≡ Ok settings → said_after sizes d number (said_by_words net line ((43 ∷ decimal gap) ∷ ws))
      ≡ act_after d number settings (unless_over d.stand (one_scan d.stand (d.stand.time + gap)))
  done_by sizes d number gap small line ws settings read =
      let known : number_said (decimal gap) ≡ Ok gap = number_is_said gap small in rw (known, read) refl

  pub scan_back : (gap : ℕ) → gap ≤ 4294967295 → (before values : List Bool) → length before ≡ input_count net → length values ≡ input_count net →
      IsReadAsScan net (scan_line net gap before values) gap before values
  scan_back gap small before values size size' =
      let n = length values in
      let ws = words_from before values 0 n in
      let settings = settings_from before values 0 n in
      let line = scan_line net gap before values in
      let few : 0 + n ≤ input_count net = omega (arith, size') in
      let all_words : words_in line ≡ (43 ∷ decimal gap) ∷ ws =
      ap (λ (changes : List ℕ). words_in (32 ∷ 32 ∷ 43 ∷ (decimal gap ++ changes))) (pieces before values 0 n)
      ∙ all_count ((43 ∷ decimal gap) ∷ ws) (gap_plain gap small, all_plain before values 0 n few) in
      let alone : words_in (43 ∷ decimal gap) ≡ (43 ∷ decimal gap) ∷ [] =
      ap (λ (bytes : List ℕ). words_in (43 ∷ bytes)) (sym (append-nil (decimal gap))) ∙ all_count ((43 ∷ decimal gap) ∷ []) (gap_plain gap small, tt) in
      record {
        settings = settings;
        says = ap (said_by_words net line) all_words
            ∙ said_with gap small line (43 ∷ decimal gap) ws settings (all_read before values 0 n few [])
            ∙ ap (with_these settings) (sym (ap (said_by_words net (43 ∷ decimal gap)) alone));
        sets = all_set before values 0 n (omega arith) before
            record { new = λ j below. absurd (omega (arith, below)); old = λ j above. refl; size = size ∙ sym size' };
      }

  -- what such a line does
  pub scan_done : (sizes : ImageSizes) (d : _) (number gap : ℕ) → gap ≤ 4294967295 → (before values : List Bool) →
      length before ≡ input_count net → length values ≡ input_count net →
      said_after sizes d number (line_said net (scan_line net gap before values))
      ≡ act_after d number (settings_from before values 0 (length values)) (unless_over d.stand (one_scan d.stand (d.stand.time + gap)))
  scan_done sizes d number gap small before values size size' =
      let n = length values in
      let ws = words_from before values 0 n in
      let line = scan_line net gap before values in
      let few : 0 + n ≤ input_count net = omega (arith, size') in
      let all_words : words_in line ≡ (43 ∷ decimal gap) ∷ ws =
      ap (λ (changes : List ℕ). words_in (32 ∷ 32 ∷ 43 ∷ (decimal gap ++ changes))) (pieces before values 0 n)
      ∙ all_count ((43 ∷ decimal gap) ∷ ws) (gap_plain gap small, all_plain before values 0 n few) in
      ap (λ (found : List (List ℕ)). said_after sizes d number (said_by_words net line found)) all_words
      ∙ done_by sizes d number gap small line ws (settings_from before values 0 n) (all_read before values 0 n few [])

pub scan_is_read : ScanIsRead
scan_is_read net sound plain_names gap small before values size size' = scan_back net sound plain_names gap small before values size size'
