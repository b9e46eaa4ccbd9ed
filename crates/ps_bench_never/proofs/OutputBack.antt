-- A difference is told by a case whose name and outputs are read as they are written.
use Rattle.std.proofs.Common.{◌≡◌, ◌≤◌, ◌<◌, ◌+◌, ◌-◌, ◌++◌, ◌∙◌, ◌==◌, ◌&&◌, ℕ, zero, suc, List, [], ◌∷◌, Bool, true, false, Option, Some, Ok, codes, drop, flat_map, get_or, if◌then◌else◌, length, nat_le, nat_lt, take, refl, sym, ap, subst, arith, append_assoc}
use Rattle.std.specs.Prelude.{slice_index_or}
use Rattle.std.specs.List.{All, list_all, prefix_len, range_with_len, suffix_len}
use Rattle.std.specs.Str.{IsAscii}
use Rattle.std.proofs.lemmas.Bool.Decides.{nat_tests}
use Rattle.std.proofs.lemmas.Fmt.{decimal_digit}
use Rattle.std.proofs.lemmas.List.{append-nil, get_or-append-add, get_or_append_left, length-append, reverse-append, take_all}
use Rattle.std.proofs.lemmas.List.Elements.{All-cons, All-nil}
use Rattle.std.proofs.lemmas.List.Folds.{list_all-append}
use Rattle.std.proofs.lemmas.Str.{IsUtf8-from_ascii, chars-IsAscii}
use Rattle.std.proofs.lemmas.Str.Ascii.{IsAscii-from_all}
use Rattle.ps_model.specs.Meaning.{Item}
use Rattle.ps_model.specs.Network.{Network, declared_count, input_count, names, no_signal, signal_name}
use Rattle.ps_model.specs.Sound.{IsSound}
use Rattle.ps_model.specs.Stored.{bit}
use Rattle.ps_model.specs.declared.channel.ImageSizes.{ImageSizes}
use Rattle.ps_model.specs.declared.named.Signal.{Signal as OutputSignal}
use Rattle.ps_trace.specs.Words.{is_blank}
use Rattle.ps_bench_cases.proofs.ReadBack.{both_hold}
use Rattle.ps_bench_cases.specs.File.{lines_read, stated}
use Rattle.ps_bench_cases.specs.Line.{check_said}
use Rattle.ps_bench_cases.specs.declared.case.Check.{Check}
use Rattle.ps_bench_cases.specs.declared.case.Check.TheVariants.{Among}
use Rattle.ps_bench_cases.specs.declared.draft.Draft.{Draft}
use Rattle.ps_bench_names.proofs.CaseNames.{name_by_chars}
use Rattle.ps_bench_names.proofs.Naming.{signal_name_at, signal_names-length}
use Rattle.ps_bench_names.specs.Names.{either_name, has_equals, instance_names, name_of, number_named, pin_named, signal_names}
use Rattle.ps_bench_names.specs.Titles.{is_case_name, may_stand}
use Rattle.ps_bench_names.specs.Words.{before_blanks}
use Rattle.ps_bench_names.specs.declared.name.Name.TheVariants.{Signal}
use Rattle.ps_bench_never.specs.Casing.{set_text}
use Rattle.ps_bench_never.specs.Pieces.{signal_text, values_text}
use Rattle.ps_bench_never.specs.ReadBack.{HasPlainNames, HasProperNames, IsTitle, is_name_byte, is_one_line, trace_of}
use Rattle.ps_bench_never.specs.SameTelling.{outputs_text}
use Rattle.ps_bench_never.proofs.CaseBack.{one_both, one_each, one_set}
use Rattle.ps_bench_never.proofs.CaseTaken.{Fits, IsExpected, Stands, Taken, after_fits, at_end, expect_act, expect_goes, expect_stands, lines, room, step}
use Rattle.ps_bench_never.proofs.CheckBack.{IsValued, digit_back, of_name, word_back}
use Rattle.ps_bench_never.proofs.NameBack.{proper_signal}
use Rattle.ps_bench_never.proofs.ScanBack.{IsPlain, found, has, plain_value}

-- ---- The name of the case.

-- bytes of a name of a case: ASCII, and no control byte
abbrev is_title_byte : ℕ → Bool
is_title_byte b = nat_le 32 b && nat_lt b 128

title_bytes : (name : List ℕ) → list_all is_name_byte name ≡ true → list_all is_title_byte name ≡ true
title_bytes [] are = refl
title_bytes (b ∷ name) are =
    let both = both_hold (is_name_byte b) (list_all is_name_byte name) are in
    let here : is_name_byte b ≡ true = both.0 in
    let first : is_title_byte b ≡ true = grind (arith, nat_tests) in
    ap (λ (t : Bool). t && list_all is_title_byte name) first ∙ title_bytes name both.1

title_ascii : (name : List ℕ) → list_all is_title_byte name ≡ true → All (λ b. b < 128) name
title_ascii [] are = All-nil (λ b. b < 128)
title_ascii (b ∷ name) are =
    let both = both_hold (is_title_byte b) (list_all is_title_byte name) are in
    let here : is_title_byte b ≡ true = both.0 in
    let first : b < 128 = grind (arith, nat_tests) in
    All-cons (λ c. c < 128) b name first (title_ascii name both.1)

title_stands : (name : List ℕ) → list_all is_title_byte name ≡ true → list_all may_stand name ≡ true
title_stands [] are = refl
title_stands (b ∷ name) are =
    let both = both_hold (is_title_byte b) (list_all is_title_byte name) are in
    let here : is_title_byte b ≡ true = both.0 in
    let first : may_stand b ≡ true = grind (arith, nat_tests) in
    ap (λ (t : Bool). t && list_all may_stand name) first ∙ title_stands name both.1

title_may : (name : List ℕ) → 0 < length name → list_all is_title_byte name ≡ true → is_case_name name ≡ true
title_may name some are =
    let ascii : IsAscii name = IsAscii-from_all name (title_ascii name are) in
    let full : (length name == 0) ≡ false = grind (arith, nat_tests) in
    sym (name_by_chars name full (IsUtf8-from_ascii name ascii)) ∙ ap (list_all may_stand) (chars-IsAscii name ascii) ∙ title_stands name are

-- a name begins with no blank
bare_first : (name tail : List ℕ) → 0 < length name → list_all is_name_byte name ≡ true → prefix_len is_blank (name ++ tail) ≡ 0
bare_first [] tail some are = absurd (omega (arith, some))
bare_first (b ∷ name) tail some are =
    let here : is_name_byte b ≡ true = (both_hold (is_name_byte b) (list_all is_name_byte name) are).0 in
    let first : is_blank b ≡ false = grind (arith, nat_tests) in
    ap (λ (t : Bool). if t then 1 + prefix_len is_blank (name ++ tail) else 0) first

abbrev pub title_of : List ℕ → List ℕ
title_of output = output ++ codes " is as it was"

bare_last : (output : List ℕ) → suffix_len is_blank (title_of output) ≡ 0
bare_last output = ap (prefix_len is_blank) (reverse-append output (codes " is as it was"))

title_is : (output : List ℕ) → 0 < length output → length output ≤ 64 → list_all is_name_byte output ≡ true → IsTitle (title_of output)
title_is output some short are =
    let name = title_of output in
    let size = length-append output (codes " is as it was") in
    let bytes : list_all is_title_byte name ≡ true =
    list_all-append is_title_byte output (codes " is as it was") ∙ ap (λ (t : Bool). t && true) (title_bytes output are) in
    record {
      may = title_may name (omega (arith, some, size)) bytes;
      short = omega (arith, short, size);
      bare = ap (λ (k : ℕ). before_blanks (drop k name)) (bare_first output (codes " is as it was") some are)
          ∙ ap (λ (k : ℕ). take (length name - k) name) (bare_last output) ∙ take_all (length name - 0) name (omega arith);
    }

-- ---- The outputs.

one_of : {X : Type 0} (P : X → Type 0) (x : X) → P x → All P (x ∷ [])
one_of P x is = All-cons P x [] is (All-nil P)

all_in_range : (P : ℕ → Type 0) (a n : ℕ) → ((o : ℕ) → o < a + n → P o) → All P (range_with_len a n)
all_in_range P a zero each = All-nil P
all_in_range P a (suc n) each =
    All-cons P a (range_with_len (a + 1) n) (each a (omega arith)) (all_in_range P (a + 1) n (λ o inside. each o (omega (arith, inside))))

module _ (net : Network) (sound : IsSound net) (proper : HasProperNames net) (plain_names : HasPlainNames net) where
  signal_bytes : (s : ℕ) → list_all is_name_byte (signal_text net s) ≡ true
  signal_bytes s = proper_signal net proper s (nat_lt s (declared_count net)) refl

  signal_is : (s : ℕ) → s < declared_count net → signal_text net s ≡ signal_name net s
  signal_is s inside =
      let yes : nat_lt s (declared_count net) ≡ true = grind (arith, nat_tests) in
      ap (λ (t : Bool). if t then signal_name net s else []) yes

  signal_some : (s : ℕ) → s < declared_count net → 0 < length (signal_text net s)
  signal_some s inside =
      let declared = signal_names net in
      let small : s < length declared = omega (arith, inside, signal_names-length net) in
      let all : length (names net) ≡ length declared + length (instance_names net) = length-append declared (instance_names net) in
      let at : get_or (names net) s [] ≡ get_or declared s [] = get_or_append_left declared (instance_names net) [] s small in
      let is : get_or (names net) s [] ≡ signal_text net s = at ∙ signal_name_at net s inside ∙ sym (signal_is s inside) in
      subst (λ (name : List ℕ). 0 < length name) is (proper s [] (omega (arith, small, all))).some

  output_is : (place : ℕ) → place < length net.outputs → signal_text net (input_count net + place) ≡ (get_or net.outputs place no_signal).name
  output_is place inside =
      let s = input_count net + place in
      signal_is s (omega (arith, inside))
      ∙ ap (λ (x : OutputSignal). x.name) (get_or-append-add net.inputs (net.outputs ++ net.locals) place no_signal ∙ get_or_append_left net.outputs net.locals no_signal place inside)

  pub output_title : (place : ℕ) → place < length net.outputs → All (λ (s : OutputSignal). length s.name ≤ 64) net.outputs → IsTitle (title_of (signal_text net (input_count net + place)))
  output_title place inside short =
      let s = input_count net + place in
      title_is (signal_text net s) (signal_some s (omega (arith, inside)))
      (subst (λ (name : List ℕ). length name ≤ 64) (sym (output_is place inside)) (short place no_signal inside)) (signal_bytes s)

  -- a signal with a value
  abbrev word_with : ℕ → Bool → List ℕ
  word_with s value = signal_text net s ++ (if value then codes "=1" else codes "=0")

  named : (s : ℕ) → s < declared_count net → name_of net (signal_text net s) ≡ Some (Signal s)
  named s inside =
      let text = signal_text net s in
      ap (λ (t : Option ℕ). either_name t (number_named (instance_names net) text) (pin_named net text)) (found net sound plain_names s inside)

  digit_said : (s v : ℕ) (value : Bool) → s < declared_count net → v < 10 → bit value ≡ v → check_said net (signal_text net s ++ 61 ∷ (48 + v) ∷ []) ≡ Ok (Among (Signal s) (v ∷ []))
  digit_said s v value inside few is =
      let text = signal_text net s in
      let value_is = values_text (Signal s) (v ∷ []) in
      let whole : text ++ 61 ∷ (48 + v) ∷ [] ≡ (text ++ codes "=") ++ value_is =
      sym (append_assoc text (codes "=") value_is ∙ ap (λ (t : List ℕ). text ++ 61 ∷ (t ++ [])) (decimal_digit v few)) in
      ap (check_said net) whole
      ∙ word_back net proper (Signal s) false (v ∷ []) (named s inside) (one_of (λ w. w < 65536) v (omega (arith, few)))
      (one_of (IsValued net (Signal s)) v (digit_back v (Some value) (ap (λ (w : ℕ). Some w) is))) tt

  word_said : (s : ℕ) (value : Bool) → s < declared_count net → check_said net (word_with s value) ≡ Ok (Among (Signal s) (bit value ∷ []))
  word_said s true inside = digit_said s 1 true inside (omega arith) refl
  word_said s false inside = digit_said s 0 false inside (omega arith) refl

  word_equals : (s : ℕ) (value : Bool) → has_equals (word_with s value) ≡ true
  word_equals s true = has (codes "1") (signal_text net s)
  word_equals s false = has (codes "0") (signal_text net s)

  word_plain : (s : ℕ) (value : Bool) → IsPlain (word_with s value)
  word_plain s true = plain_value (codes "1") refl (signal_text net s) (of_name (signal_text net s) (signal_bytes s))
  word_plain s false = plain_value (codes "0") refl (signal_text net s) (of_name (signal_text net s) (signal_bytes s))

  module _ (sizes : ImageSizes) (values : List Bool) where
    abbrev output_word : ℕ → List ℕ
    output_word o = word_with (input_count net + o) (slice_index_or values o false)

    abbrev output_check : ℕ → Check
    output_check o = Among (Signal (input_count net + o)) (bit (slice_index_or values o false) ∷ [])

    output_expected : (o : ℕ) → o < length net.outputs → IsExpected net sizes output_word output_check o
    output_expected o inside = record {
      says = word_said (input_count net + o) (slice_index_or values o false) (omega (arith, inside));
      equals = word_equals (input_count net + o) (slice_index_or values o false);
      plain = word_plain (input_count net + o) (slice_index_or values o false);
    }

    module _ (name : List ℕ) (total : List Item) (traced : length (trace_of net name total) ≤ 67108864) where
      one_line : (xs : List ℕ) → is_one_line (codes "  expect" ++ flat_map (λ o. set_text net (input_count net + o) (slice_index_or values o false)) xs) ≡ true
      one_line xs =
          let words = flat_map (λ o. set_text net (input_count net + o) (slice_index_or values o false)) xs in
          one_both (codes "  expect") words refl
          (one_each (λ o. set_text net (input_count net + o) (slice_index_or values o false))
          (λ o. one_set net sizes total sound plain_names (input_count net + o) (slice_index_or values o false)) xs)

      these_taken : (xs : List ℕ) → All (IsExpected net sizes output_word output_check) xs → 0 < length xs →
          (d : Draft) (number at n time : ℕ) (ins : List Bool) → Stands net sizes name d n time total ins → 0 < n → n + 2 ≤ number →
          Fits net sizes number at ((codes "  expect" ++ flat_map (λ o. set_text net (input_count net + o) (slice_index_or values o false)) xs) ++ 10 ∷ []) →
          Taken net sizes (lines_read net sizes d number (lines net sizes at ((codes "  expect" ++ flat_map (λ o. set_text net (input_count net + o) (slice_index_or values o false)) xs) ++ 10 ∷ [])))
      these_taken [] each some d number at n time ins stands many far fits = absurd (omega (arith, some))
      these_taken (x ∷ xs) each some d number at n time ins stands many far fits =
          let line = codes "  expect" ++ flat_map (λ o. set_text net (input_count net + o) (slice_index_or values o false)) (x ∷ xs) in
          let one : is_one_line line ≡ true = one_line (x ∷ xs) in
          let later = after_fits net sizes number at line [] one fits in
          let behind = stated d number [] (expect_act net sizes output_word output_check d (x ∷ xs)) in
          let stands' = expect_stands net sizes output_word output_check name (x ∷ xs) d number n time total ins stands in
          let said = expect_goes net sizes output_word output_check name x xs each d number n time total ins stands many (omega (arith, later.few, far)) in
          subst (Taken net sizes)
          (sym (step net sizes number at line [] one fits d behind said (room net sizes name total traced behind n time total [] ins stands' (append-nil total))))
          (at_end net sizes name behind (number + 1) (at + (length line + 1)) n time total ins stands')

      pub outputs_taken : (place : ℕ) → place < length net.outputs → (d : Draft) (number at n time : ℕ) (ins : List Bool) → Stands net sizes name d n time total ins → 0 < n → n + 2 ≤ number →
          Fits net sizes number at (outputs_text net values) → Taken net sizes (lines_read net sizes d number (lines net sizes at (outputs_text net values)))
      outputs_taken place inside d number at n time ins stands many far fits =
          these_taken (range_with_len 0 (length net.outputs)) (all_in_range (IsExpected net sizes output_word output_check) 0 (length net.outputs) (λ o small. output_expected o (omega (arith, small))))
          (some_range (length net.outputs) (omega (arith, inside))) d number at n time ins stands many far fits
        where
          some_range : (k : ℕ) → 0 < k → 0 < length (range_with_len 0 k)
          some_range zero some = some
          some_range (suc k) some = omega arith
