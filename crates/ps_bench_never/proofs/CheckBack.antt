-- A condition that was read is read as a check, as it is written.
use Rattle.std.proofs.Common.{◌≡◌, ◌<◌, ◌+◌, ◌-◌, ◌*◌, ◌/◌, ◌%◌, ◌^◌, ◌++◌, ◌∙◌, ◌==◌, ◌&&◌, ℕ, zero, suc, List, [], ◌∷◌, Bool, true, false, not, Option, Some, None, Ok, if◌then◌else◌, codes, decimal, length, map, take, filter_map, flat_map, option_map, is_some, nat_le, slice_index, refl, sym, ap, subst, arith, append_assoc}
use Rattle.std.specs.Prelude.{slice_index_or}
use Rattle.std.specs.Int.{to_be_bytes, w16}
use Rattle.std.specs.List.{All, cons_option, list_all, slice_split}
use Rattle.std.specs.Char.{is_ascii_digit, to_ascii_uppercase}
use Rattle.std.specs.Str.{bytes_eq}
use Rattle.std.proofs.lemmas.Bool.Decides.{nat_tests}
use Rattle.std.proofs.lemmas.Fmt.{decimal_digit, digits_decimal}
use Rattle.std.proofs.lemmas.List.{append-nil, get_or-append-add, length-append}
use Rattle.std.proofs.lemmas.List.Folds.{list_all-append}
use Rattle.std.proofs.lemmas.List.Splits.{slice_split_at, slice_split_none}
use Rattle.std.proofs.lemmas.Slice.Eq.{bytes_eq-Decides}
use Rattle.hex.specs.Hex.{IsBytes, decode_of, encode_upper, encode_with, lower_digits, upper_digits}
use Rattle.hex.proofs.HexLemmas.{decode_of-encode_upper}
use Rattle.ps_model.specs.Network.{Network, kind_at}
use Rattle.ps_model.specs.Stored.{bit, is_state}
use Rattle.ps_model.specs.declared.kind.Kind.{Kind}
use Rattle.ps_model.proofs.Sixteen.{short_code}
use Rattle.ps_report.specs.Lines.{code_text}
use Rattle.ps_report.proofs.Capitals.{capital_digit}
use Rattle.ps_trace.specs.Words.{is_blank}
use Rattle.ps_bench_cases.proofs.ReadBack.{both_hold, digits_of_traces}
use Rattle.ps_bench_cases.specs.Line.{check_said, compare_said}
use Rattle.ps_bench_cases.specs.declared.case.Check.TheVariants.{Among, Not}
use Rattle.ps_bench_names.specs.Names.{code_of_kind, four_digits, has_equals, is_denied, name_of, name_part, number_in, truth_of, value_of, value_part, values_of}
use Rattle.ps_bench_names.specs.declared.name.Name.{Name}
use Rattle.ps_bench_names.specs.declared.name.Name.TheVariants.{Code, Pin, Signal}
use Rattle.ps_bench_rules.specs.declared.rules.Condition.{Condition}
use Rattle.ps_bench_never.specs.Pieces.{condition_word, name_text, sign, value_text, values_text}
use Rattle.ps_bench_never.specs.ReadBack.{HasProperNames, HasShortValues, IsReadAsCheck, is_name_byte, is_of_name}
use Rattle.ps_bench_never.proofs.NameBack.{name_bytes}
use Rattle.ps_bench_never.proofs.ScanBack.{IsPlain, has, is_unbroken, name_read, plain_value, value_read, with_value}

-- ---- Values.

-- digits in capitals
capitals : (bytes : List ℕ) → All (λ b. b < 256) bytes → map to_ascii_uppercase (encode_with lower_digits bytes) ≡ encode_upper bytes
unfolding encode_with
capitals [] each = refl
capitals (b ∷ bytes) each =
    let small : b < 256 = each 0 0 (omega arith) in
    let more = map to_ascii_uppercase (encode_with lower_digits bytes) in
    ap (λ (d : ℕ). d ∷ to_ascii_uppercase (slice_index lower_digits (b % 16)) ∷ more) (sym (capital_digit (b / 16) (omega (arith, small))))
    ∙ ap (λ (d : ℕ). slice_index upper_digits (b / 16) ∷ d ∷ more) (sym (capital_digit (b % 16) (omega arith)))
    ∙ ap (λ (rest : List ℕ). slice_index upper_digits (b / 16) ∷ slice_index upper_digits (b % 16) ∷ rest)
    (capitals bytes (λ k d inside. each (suc k) d (omega (arith, inside))))

two_bytes : (v : ℕ) → All (λ b. b < 256) (to_be_bytes w16 v)
two_bytes v zero d inside = omega arith
two_bytes v (suc zero) d inside = omega arith
two_bytes v (suc (suc k)) d inside = absurd (omega (arith, inside))

are_bytes : (v : ℕ) → IsBytes (to_be_bytes w16 v)
are_bytes v zero = omega arith
are_bytes v (suc zero) = omega arith
are_bytes v (suc (suc k)) = omega arith

four_long : (v : ℕ) → length (code_text v) ≡ 4
unfolding encode_with
four_long v = refl

four_back : (v : ℕ) → v < 65536 → four_digits (code_text v) ≡ Some v
four_back v small =
    let long : (length (code_text v) == 4) ≡ true = ap (λ (n : ℕ). n == 4) (four_long v) in
    let back : v / 256 % 256 * 256 + v % 256 ≡ v = omega (arith, small) in
    ap (λ (t : Bool). if t then number_in (decode_of (code_text v)) else None) long
    ∙ ap (λ (t : List ℕ). number_in (decode_of t)) (capitals (to_be_bytes w16 v) (two_bytes v))
    ∙ ap number_in (decode_of-encode_upper (to_be_bytes w16 v) (are_bytes v)) ∙ ap (λ (n : ℕ). Some n) back

code_back : (kind : Kind) (code : Option ℕ) (v : ℕ) → code_of_kind kind code ≡ Some v → code_of_kind kind (four_digits (code_text v)) ≡ Some v
code_back kind None v is = let no : ⊥ = cc in absurd no
code_back kind (Some code) v is = chosen (is_state kind code) refl is
  where
    chosen : (b : Bool) → is_state kind code ≡ b → (if b then Some code else None) ≡ Some v → code_of_kind kind (four_digits (code_text v)) ≡ Some v
    chosen true state at =
        let same : code ≡ v = cc in
        let of : is_state kind v ≡ true = subst (λ (c : ℕ). is_state kind c ≡ true) same state in
        ap (code_of_kind kind) (four_back v (short_code kind v of)) ∙ ap (λ (t : Bool). if t then Some v else None) of
    chosen false state at = let no : ⊥ = cc in absurd no

pub digit_back : (v : ℕ) (value : Option Bool) → option_map bit value ≡ Some v → option_map bit (truth_of (decimal v)) ≡ Some v
digit_back v None is = let no : ⊥ = cc in absurd no
digit_back v (Some true) is =
    let one : 1 ≡ v = cc in
    subst (λ (n : ℕ). option_map bit (truth_of (decimal n)) ≡ Some n) one (ap (λ (t : List ℕ). option_map bit (truth_of t)) (decimal_digit 1 (omega arith)))
digit_back v (Some false) is =
    let none : 0 ≡ v = cc in
    subst (λ (n : ℕ). option_map bit (truth_of (decimal n)) ≡ Some n) none (ap (λ (t : List ℕ). option_map bit (truth_of t)) (decimal_digit 0 (omega arith)))

module _ (net : Network) where
  pub value_back : (name : Name) (word : List ℕ) (v : ℕ) → value_of net name word ≡ Some v → value_of net name (value_text name v) ≡ Some v
  value_back (Code i) word v is = code_back (kind_at net i) (four_digits word) v is
  value_back (Signal s) word v is = digit_back v (truth_of word) is
  value_back (Pin i j) word v is = digit_back v (truth_of word) is

-- ---- Several values.

-- bytes of a value: digits and letters
abbrev pub is_value : List ℕ → Bool
is_value bytes = list_all (λ b. nat_le 48 b) bytes

digits_value : (ds : List ℕ) → list_all is_ascii_digit ds ≡ true → is_value ds ≡ true
digits_value [] are = refl
digits_value (d ∷ ds) are =
    let both = both_hold (is_ascii_digit d) (list_all is_ascii_digit ds) are in
    let digit : is_ascii_digit d ≡ true = both.0 in
    let first : nat_le 48 d ≡ true = grind (arith, nat_tests) in
    ap (λ (t : Bool). t && is_value ds) first ∙ digits_value ds both.1

value_digit : (ds : List ℕ) (k : ℕ) → is_value ds ≡ true → k < length ds → nat_le 48 (slice_index ds k) ≡ true
value_digit [] k are inside = absurd (omega (arith, inside))
value_digit (d ∷ ds) zero are inside = (both_hold (nat_le 48 d) (is_value ds) are).0
value_digit (d ∷ ds) (suc k) are inside = value_digit ds k (both_hold (nat_le 48 d) (is_value ds) are).1 (omega (arith, inside))

code_value : (bytes : List ℕ) → All (λ b. b < 256) bytes → is_value (encode_upper bytes) ≡ true
unfolding encode_with
code_value [] each = refl
code_value (b ∷ bytes) each =
    let small : b < 256 = each 0 0 (omega arith) in
    let more = is_value (encode_upper bytes) in
    ap (λ (t : Bool). t && (nat_le 48 (slice_index upper_digits (b % 16)) && more)) (value_digit upper_digits (b / 16) refl (omega (arith, small)))
    ∙ ap (λ (t : Bool). t && more) (value_digit upper_digits (b % 16) refl (omega arith))
    ∙ code_value bytes (λ k d inside. each (suc k) d (omega (arith, inside)))

number_value : (v : ℕ) → v < 65536 → is_value (decimal v) ≡ true
number_value v small = let fits : v < 2 ^ 64 = omega (arith, small) in digits_value (decimal v) (digits_decimal digits_of_traces v fits)

pub text_value : (name : Name) (v : ℕ) → v < 65536 → is_value (value_text name v) ≡ true
text_value (Code i) v small = ap is_value (capitals (to_be_bytes w16 v) (two_bytes v)) ∙ code_value (to_be_bytes w16 v) (two_bytes v)
text_value (Signal s) v small = number_value v small
text_value (Pin i j) v small = number_value v small

no_comma : (bytes : List ℕ) → is_value bytes ≡ true → All (λ b. (b == 44) ≡ false) bytes
no_comma [] are k d inside = absurd (omega (arith, inside))
no_comma (b ∷ bytes) are zero d inside = let first : nat_le 48 b ≡ true = (both_hold (nat_le 48 b) (is_value bytes) are).0 in grind (arith, nat_tests)
no_comma (b ∷ bytes) are (suc k) d inside = no_comma bytes (both_hold (nat_le 48 b) (is_value bytes) are).1 k d (omega (arith, inside))

cut : (name : Name) (v : ℕ) (rest : List ℕ) → All (λ w. w < 65536) (v ∷ rest) → slice_split (λ b. b == 44) (values_text name (v ∷ rest)) ≡ map (value_text name) (v ∷ rest)
cut name v [] each =
    let one = value_text name v in
    ap (slice_split (λ b. b == 44)) (append-nil one) ∙ slice_split_none (λ b. b == 44) one (no_comma one (text_value name v (each 0 0 (omega arith))))
cut name v (w ∷ rest) each =
    let one = value_text name v in
    slice_split_at (λ b. b == 44) one 44 (values_text name (w ∷ rest)) (no_comma one (text_value name v (each 0 0 (omega arith)))) refl
    ∙ ap (λ (pieces : List (List ℕ)). one ∷ pieces) (cut name w rest (λ k d inside. each (suc k) d (omega (arith, inside))))

module _ (net : Network) (name : Name) where
  -- a value is read as it is written
  abbrev pub IsValued : ℕ → Type 0
  IsValued v = value_of net name (value_text name v) ≡ Some v

  all_some : (vs : List ℕ) → All IsValued vs → list_all (λ piece. is_some (value_of net name piece)) (map (value_text name) vs) ≡ true
  all_some [] each = refl
  all_some (v ∷ vs) each =
      ap (λ (found : Option ℕ). is_some found && list_all (λ piece. is_some (value_of net name piece)) (map (value_text name) vs)) (each 0 0 (omega arith))
      ∙ all_some vs (λ k d inside. each (suc k) d (omega (arith, inside)))

  all_back : (vs : List ℕ) → All IsValued vs → filter_map (value_of net name) (map (value_text name) vs) ≡ vs
  all_back [] each = refl
  all_back (v ∷ vs) each =
      ap (λ (found : Option ℕ). cons_option found (filter_map (value_of net name) (map (value_text name) vs))) (each 0 0 (omega arith))
      ∙ ap (λ (rest : List ℕ). v ∷ rest) (all_back vs (λ k d inside. each (suc k) d (omega (arith, inside))))

  values_back : (v : ℕ) (rest : List ℕ) → All (λ w. w < 65536) (v ∷ rest) → All IsValued (v ∷ rest) → values_of net name (values_text name (v ∷ rest)) ≡ Some (v ∷ rest)
  values_back v rest short each =
      ap (λ (pieces : List (List ℕ)). if list_all (λ piece. is_some (value_of net name piece)) pieces then Some (filter_map (value_of net name) pieces) else None) (cut name v rest short)
      ∙ ap (λ (t : Bool). if t then Some (filter_map (value_of net name) (map (value_text name) (v ∷ rest))) else None) (all_some (v ∷ rest) each)
      ∙ ap (λ (vs : List ℕ). Some vs) (all_back (v ∷ rest) each)

-- ---- Checks.

pub other_word : (w c : List ℕ) → has_equals w ≡ true → has_equals c ≡ false → bytes_eq w c ≡ false
other_word w c has_it has_none = chosen (bytes_eq w c) refl
  where
    chosen : (b : Bool) → bytes_eq w c ≡ b → b ≡ false
    chosen true is = let same : w ≡ c = (bytes_eq-Decides w c).0 is in let no : ⊥ = cc in absurd no
    chosen false is = refl

not_denied : (name : List ℕ) (k : ℕ) → list_all is_name_byte name ≡ true → (slice_index_or name k 0 == 33) ≡ false
not_denied [] k are = refl
not_denied (b ∷ name) zero are =
    let here : is_name_byte b ≡ true = (both_hold (is_name_byte b) (list_all is_name_byte name) are).0 in grind (arith, nat_tests)
not_denied (b ∷ name) (suc k) are = not_denied name k (both_hold (is_name_byte b) (list_all is_name_byte name) are).1

pub of_name : (name : List ℕ) → list_all is_name_byte name ≡ true → list_all is_of_name name ≡ true
of_name [] are = refl
of_name (b ∷ name) are =
    let both = both_hold (is_name_byte b) (list_all is_name_byte name) are in
    let here : is_name_byte b ≡ true = both.0 in
    let first : is_of_name b ≡ true = grind (arith, nat_tests) in
    ap (λ (t : Bool). t && list_all is_of_name name) first ∙ of_name name both.1

-- a name with `!` after it
last_byte : (name : List ℕ) → slice_index_or (name ++ 33 ∷ []) (length (name ++ 33 ∷ []) - 1) 0 ≡ 33
last_byte name =
    let size : length (name ++ 33 ∷ []) - 1 ≡ length name + 0 = omega (arith, length-append name (33 ∷ [])) in
    ap (λ (k : ℕ). slice_index_or (name ++ 33 ∷ []) k 0) size ∙ get_or-append-add name (33 ∷ []) 0 0

without_last : (name : List ℕ) → take (length (name ++ 33 ∷ []) - 1) (name ++ 33 ∷ []) ≡ name
without_last name =
    let size : length (name ++ 33 ∷ []) - 1 ≡ length name = omega (arith, length-append name (33 ∷ [])) in
    ap (λ (k : ℕ). take k (name ++ 33 ∷ [])) size ∙ front name
  where
    front : (bytes : List ℕ) → take (length bytes) (bytes ++ 33 ∷ []) ≡ bytes
    front [] = refl
    front (b ∷ bytes) = ap (λ (l : List ℕ). b ∷ l) (front bytes)

pub bang_of_name : (name : List ℕ) → list_all is_of_name name ≡ true → list_all is_of_name (name ++ 33 ∷ []) ≡ true
bang_of_name name are = list_all-append is_of_name name (33 ∷ []) ∙ ap (λ (t : Bool). t && true) are

-- what a condition that is denied has: one value; another one has some
abbrev pub HasShape : (denied : Bool) → List ℕ → Type 0
HasShape true [] = ⊥
HasShape true (v ∷ []) = Unit {0}
HasShape true (v ∷ w ∷ vs) = ⊥
HasShape false [] = ⊥
HasShape false (v ∷ vs) = Unit {0}

-- a condition that was read
pub record IsTold (net : Network) (c : Condition) : Type 0 where
  pub short : HasShortValues c
  pub named : name_of net (name_text net c.name) ≡ Some c.name
  pub valued : All (IsValued net c.name) c.values
  pub shaped : HasShape c.denied c.values

module _ (net : Network) (proper : HasProperNames net) where
  -- a word of a name and a value is no word for a trip
  said : (name value : List ℕ) → list_all is_of_name name ≡ true → check_said net (with_value value name) ≡ compare_said net name value
  said name value are =
      let word = with_value value name in
      let it_has : has_equals word ≡ true = has value name in
      let one : bytes_eq word (codes "trip") ≡ false = other_word word (codes "trip") it_has refl in
      let two : bytes_eq word (codes "no-trip") ≡ false = other_word word (codes "no-trip") it_has refl in
      let front : name_part word ≡ name = name_read value name are in
      let back : value_part word ≡ value = value_read value name are in
      rw (one, two, it_has, front, back) refl

  pub word_back : (name : Name) (denied : Bool) (values : List ℕ) → name_of net (name_text net name) ≡ Some name → All (λ w. w < 65536) values → All (IsValued net name) values →
      HasShape denied values → check_said net (name_text net name ++ sign denied ++ values_text name values)
      ≡ Ok (if denied then Not name (slice_index_or values 0 0) else Among name values)
  word_back name true [] named short valued shape = absurd shape
  word_back name true (v ∷ []) named short valued shape =
      let text = name_text net name in
      let value = values_text name (v ∷ []) in
      let bang = text ++ 33 ∷ [] in
      let is : (text ++ codes "!=") ++ value ≡ with_value value bang = append_assoc text (codes "!=") value ∙ sym (append_assoc text (33 ∷ []) (61 ∷ value)) in
      let of : list_all is_of_name bang ≡ true = bang_of_name text (of_name text (name_bytes net proper name)) in
      let denies : is_denied bang ≡ true = ap (λ (b : ℕ). b == 33) (last_byte text) in
      let bare : take (length bang - 1) bang ≡ text = without_last text in
      let valued_is : value_of net name value ≡ Some v = ap (value_of net name) (append-nil (value_text name v)) ∙ valued 0 0 (omega arith) in
      let front : compare_said net bang value ≡ Ok (Not name v) = rw (denies, bare, named, valued_is) refl in
      ap (check_said net) is ∙ said bang value of ∙ front
  word_back name true (v ∷ w ∷ vs) named short valued shape = absurd shape
  word_back name false [] named short valued shape = absurd shape
  word_back name false (v ∷ vs) named short valued shape =
      let text = name_text net name in
      let value = values_text name (v ∷ vs) in
      let is : (text ++ codes "=") ++ value ≡ with_value value text = append_assoc text (codes "=") value in
      let of : list_all is_of_name text ≡ true = of_name text (name_bytes net proper name) in
      let denies : is_denied text ≡ false = not_denied text (length text - 1) (name_bytes net proper name) in
      let valued_is : values_of net name value ≡ Some (v ∷ vs) = values_back net name v vs short valued in
      let front : compare_said net text value ≡ Ok (Among name (v ∷ vs)) = rw (denies, named, valued_is) refl in
      ap (check_said net) is ∙ said text value of ∙ front

  pub check_back : (c : Condition) → IsTold net c → IsReadAsCheck net c
  check_back c told = word_back c.name c.denied c.values told.named told.short told.valued told.shaped

-- ---- Words.

value_unbroken : (bytes : List ℕ) → is_value bytes ≡ true → is_unbroken bytes ≡ true
value_unbroken [] are = refl
value_unbroken (b ∷ bytes) are =
    let both = both_hold (nat_le 48 b) (is_value bytes) are in
    let here : nat_le 48 b ≡ true = both.0 in
    let first : not (is_blank b) ≡ true = grind (arith, nat_tests) in
    ap (λ (t : Bool). t && is_unbroken bytes) first ∙ value_unbroken bytes both.1

unbroken_both : (a b : List ℕ) → is_unbroken a ≡ true → is_unbroken b ≡ true → is_unbroken (a ++ b) ≡ true
unbroken_both a b first second = list_all-append (λ c. not (is_blank c)) a b ∙ ap (λ (t : Bool). t && is_unbroken b) first ∙ second

later_unbroken : (name : Name) (vs : List ℕ) → All (λ w. w < 65536) vs → is_unbroken (flat_map (λ v. codes "," ++ value_text name v) vs) ≡ true
later_unbroken name [] each = refl
later_unbroken name (v ∷ vs) each =
    unbroken_both (value_text name v) (flat_map (λ w. codes "," ++ value_text name w) vs)
    (value_unbroken (value_text name v) (text_value name v (each 0 0 (omega arith)))) (later_unbroken name vs (λ k d inside. each (suc k) d (omega (arith, inside))))

values_unbroken : (name : Name) (vs : List ℕ) → All (λ w. w < 65536) vs → is_unbroken (values_text name vs) ≡ true
values_unbroken name [] each = refl
values_unbroken name (v ∷ vs) each =
    unbroken_both (value_text name v) (flat_map (λ w. codes "," ++ value_text name w) vs)
    (value_unbroken (value_text name v) (text_value name v (each 0 0 (omega arith)))) (later_unbroken name vs (λ k d inside. each (suc k) d (omega (arith, inside))))

module _ (net : Network) (proper : HasProperNames net) where
  -- a condition is a word with `=`
  word_is : (text value : List ℕ) (denied : Bool) → list_all is_of_name text ≡ true → is_unbroken value ≡ true →
      IsPlain (text ++ sign denied ++ value) × (has_equals (text ++ sign denied ++ value) ≡ true)
  word_is text value true are unbroken =
      let bang = text ++ 33 ∷ [] in
      let is : with_value value bang ≡ (text ++ codes "!=") ++ value = append_assoc text (33 ∷ []) (61 ∷ value) ∙ sym (append_assoc text (codes "!=") value) in
      (subst IsPlain is (plain_value value unbroken bang (bang_of_name text are)), subst (λ (w : List ℕ). has_equals w ≡ true) is (has value bang))
  word_is text value false are unbroken =
      let is : with_value value text ≡ (text ++ codes "=") ++ value = sym (append_assoc text (codes "=") value) in
      (subst IsPlain is (plain_value value unbroken text are), subst (λ (w : List ℕ). has_equals w ≡ true) is (has value text))

  pub condition_is : (c : Condition) → HasShortValues c → IsPlain (condition_word net c) × (has_equals (condition_word net c) ≡ true)
  condition_is c short =
      word_is (name_text net c.name) (values_text c.name c.values) c.denied (of_name (name_text net c.name) (name_bytes net proper c.name)) (values_unbroken c.name c.values short)
