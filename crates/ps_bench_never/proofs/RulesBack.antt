-- What a rules file that was read says can be written in lines: names of rules, values, and times.
use Rattle.std.proofs.Common.{◌≡◌, ◌≤◌, ◌<◌, ◌+◌, ◌-◌, ◌&&◌, ◌||◌, ◌==◌, ◌∙◌, ℕ, zero, suc, List, [], ◌∷◌, Bool, true, false, not, Option, Some, None, Result, Ok, Err, IfOk, IfSome, if◌then◌else◌, codes, encode_utf8, encode_utf8_all, filter_map, fold, get_or, is_some, length, nat_le, nat_lt, option_map, drop, inl, inr, reverse, take, refl, sym, ap, subst, arith}
use Rattle.std.specs.List.{All, after_first, before_first, cons_option, list_all, list_any, prefix_len, slice_split, suffix_len}
use Rattle.std.specs.Str.{all_scalars, bytes_eq, chars}
use Rattle.std.proofs.lemmas.Bool.Decides.{nat_tests}
use Rattle.std.proofs.lemmas.Bool.{cases_lt}
use Rattle.std.proofs.lemmas.Grind.{common_steps}
use Rattle.std.proofs.lemmas.List.{get_or-reverse, length-reverse, take_all}
use Rattle.std.proofs.lemmas.List.Splits.{length-slice_split}
use Rattle.std.proofs.lemmas.List.Sums.{prefix_len-drop_all, prefix_len-drop_no, prefix_len_stops, suffix_len-take_no}
use Rattle.std.proofs.lemmas.List.Elements.{All-append, All-cons, All-nil, All-push}
use Rattle.std.proofs.lemmas.Str.{encodes-chars, scalars-chars}
use Rattle.std.proofs.str.Laws as laws
use lib.Utf8.{scalar}
use Rattle.ps_lines.specs.Lines.{Line}
use Rattle.ps_lines.specs.Lines.Line.{Kept, KeptLast, Large, Long}
use Rattle.ps_model.specs.declared.kind.Kind.{Kind}
use Rattle.ps_model.specs.Network.{Network, kind_at}
use Rattle.ps_model.specs.Stored.{bit, is_state}
use Rattle.ps_model.proofs.Sixteen.{short_code}
use Rattle.ps_trace.specs.Faults.{first_of, others_of}
use Rattle.ps_trace.specs.Words.{is_blank, number_of}
use Rattle.ps_bench_names.specs.Names.{code_of_kind, four_digits, has_equals, is_denied, name_of, name_part, truth_of, value_of, value_part, values_of}
use Rattle.ps_bench_names.specs.Titles.{is_case_name, may_stand}
use Rattle.ps_bench_names.specs.Words.{before_blanks, behind_blanks, is_digits, is_none_left, words_in}
use Rattle.ps_bench_names.specs.declared.name.Name.{Name}
use Rattle.ps_bench_names.specs.declared.name.Name.TheVariants.{Code, Pin, Signal}
use Rattle.ps_bench_names.specs.declared.name.Setting.{Setting}
use Rattle.ps_bench_names.proofs.CaseNames.{name_is_utf8}
use Rattle.ps_bench_frame.proofs.Characters.{each_byte, shape_of}
use Rattle.ps_bench_rules.specs.File.{at, bare_rule, bytes_after, closed, closed_by, has_begun, line_after, lines_read, no_lines, paced_after, rule_begun, rule_judged, rules_lines, rules_of, said_after, settings_after, stands, tied_after, unless_bare, unless_refused, wanted, with_file, with_first, with_fixed, with_follow}
use Rattle.ps_bench_rules.specs.Line.{Said, follow_said, is_setting, line_said, pace_of_number, pace_of_word, pace_said, rule_begins, said_by_words, said_or, setting_line, some_settings}
use Rattle.ps_bench_rules.specs.Line.Said.{asks, begins, breaks, fixes, nothing, paces, starts, ties}
use Rattle.ps_bench_rules.specs.Parts.{and_then}
use Rattle.ps_bench_rules.specs.Words.{among_said, compare_said, condition_of, condition_said, conditions_said, denied_said, is_at, named_when, one_value, term_of}
use Rattle.ps_bench_rules.specs.declared.draft.Draft.{Draft}
use Rattle.ps_bench_rules.specs.declared.draft.Head.{Head}
use Rattle.ps_bench_rules.specs.declared.flaw.Flaw.{Flaw}
use Rattle.ps_bench_rules.specs.declared.flaw.Flaw.TheVariants.{R1, R4, R5}
use Rattle.ps_bench_rules.specs.declared.flaw.RulesRefusal.{RulesRefusal}
use Rattle.ps_bench_rules.specs.declared.limits.TheConstants.{LONGEST_PACE, LONGEST_RULE_NAME, MOST_RULES, MOST_RULES_LINES}
use Rattle.ps_bench_rules.specs.declared.rules.Condition.{Condition}
use Rattle.ps_bench_rules.specs.declared.rules.Follow.{Follow}
use Rattle.ps_bench_rules.specs.declared.rules.Pace.{Pace}
use Rattle.ps_bench_rules.specs.declared.rules.Pace.TheVariants.{Any, Every}
use Rattle.ps_bench_rules.specs.declared.rules.Purpose.{Purpose}
use Rattle.ps_bench_rules.specs.declared.rules.Purpose.TheVariants.{Never, Same}
use Rattle.ps_bench_rules.specs.declared.rules.Rule.{Rule}
use Rattle.ps_bench_rules.specs.declared.rules.RulesFile.{RulesFile}
use Rattle.ps_bench_never.specs.Pieces.{name_text}
use Rattle.ps_bench_never.specs.ReadBack.{HasProperNames, IsTitle, is_one_line}
use Rattle.ps_bench_never.proofs.CaseBack.{one_both}
use Rattle.ps_bench_never.proofs.CheckBack.{HasShape, IsTold, IsValued, value_back}
use Rattle.ps_bench_never.proofs.NameBack.{name_back}

-- ---- Blanks at the ends.

-- no blank is in front of what is behind blanks
none_first : (bytes : List ℕ) → prefix_len is_blank (behind_blanks bytes) ≡ 0
none_first bytes =
    let n = prefix_len is_blank bytes in
    elim (cases_lt n (length bytes)) [
      | inl some ↦ prefix_len-drop_no is_blank bytes n 0 some (prefix_len_stops is_blank bytes 0 some)
      | inr all ↦ prefix_len-drop_all is_blank bytes n all
    ]

none_taken : (bytes : List ℕ) (n : ℕ) → prefix_len is_blank bytes ≡ 0 → prefix_len is_blank (take n bytes) ≡ 0
none_taken bytes zero none = refl
none_taken [] (suc n) none = refl
none_taken (b ∷ bytes) (suc n) none = chosen (is_blank b) refl none
  where
    chosen : (t : Bool) → is_blank b ≡ t → (if t then 1 + prefix_len is_blank bytes else 0) ≡ 0 → (if t then 1 + prefix_len is_blank (take n bytes) else 0) ≡ 0
    chosen true is none = absurd (omega (arith, none))
    chosen false is none = refl

-- none is at the end of what is before them
none_last : (bytes : List ℕ) → suffix_len is_blank (before_blanks bytes) ≡ 0
none_last bytes =
    let tail = suffix_len is_blank bytes in
    let n = length bytes - tail in
    elim (cases_lt tail (length bytes)) [
      | inl some ↦
          let stops : is_blank (get_or (reverse bytes) tail 0) ≡ false = prefix_len_stops is_blank (reverse bytes) 0 (omega (arith, some, length-reverse bytes)) in
          let there : get_or (reverse bytes) tail 0 ≡ get_or bytes (n - 1) 0 =
          get_or-reverse bytes tail 0 some ∙ ap (λ (k : ℕ). get_or bytes k 0) (omega (arith, some)) in
          suffix_len-take_no is_blank bytes n 0 (omega (arith, some)) (omega arith) (ap is_blank (sym there) ∙ stops)
      | inr all ↦ let none : n ≡ 0 = omega (arith, all) in ap (λ (k : ℕ). suffix_len is_blank (take k bytes)) none
    ]

-- once is enough
trimmed : (bytes : List ℕ) → before_blanks (behind_blanks (before_blanks (behind_blanks bytes))) ≡ before_blanks (behind_blanks bytes)
trimmed bytes =
    let inner = behind_blanks bytes in
    let name = before_blanks inner in
    let front : prefix_len is_blank name ≡ 0 = none_taken inner (length inner - suffix_len is_blank inner) (none_first bytes) in
    let back : suffix_len is_blank name ≡ 0 = none_last inner in
    ap (λ (k : ℕ). before_blanks (drop k name)) front ∙ ap (λ (k : ℕ). take (length name - k) name) back ∙ take_all (length name - 0) name (omega arith)

-- ---- The name of a rule.

one_all : (bytes : List ℕ) → All (λ b. 32 ≤ b) bytes → is_one_line bytes ≡ true
one_all [] each = refl
one_all (b ∷ bytes) each =
    let first : 32 ≤ b = each 0 0 (omega arith) in
    let test : nat_le 32 b ≡ true = grind (arith, nat_tests) in
    ap (λ (t : Bool). t && is_one_line bytes) test ∙ one_all bytes (λ k d inside. each (suc k) d (omega (arith, inside)))

one_of_chars : (cs : List ℕ) → all_scalars cs ≡ true → list_all may_stand cs ≡ true → is_one_line (encode_utf8_all cs) ≡ true
one_of_chars [] are may = refl
one_of_chars (c ∷ cs) are may =
    let both = laws.both (scalar c) (all_scalars cs) are in
    let stand = laws.both (may_stand c) (list_all may_stand cs) may in
    let here : may_stand c ≡ true = stand.0 in
    let low : 32 ≤ c = grind (arith, nat_tests) in
    one_both (encode_utf8 c) (encode_utf8_all cs)
    (one_all (encode_utf8 c) (each_byte (λ b. 32 ≤ b) (λ b high. omega (arith, high)) c (shape_of c both.0) low))
    (one_of_chars cs both.1 stand.1)

pub one_name : (name : List ℕ) → is_case_name name ≡ true → is_one_line name ≡ true
one_name name is =
    let utf8 = name_is_utf8 name is in
    let may : list_all may_stand (chars name) ≡ true = grind (arith, common_steps) in
    ap is_one_line (sym (encodes-chars name utf8)) ∙ one_of_chars (chars name) (scalars-chars name utf8) may

-- a name of a rule can be written: in one line, and as the name of a case
abbrev pub IsNamed : List ℕ → Type 0
IsNamed name = (is_one_line name ≡ true) × IsTitle name

judged_name : (name : List ℕ) (count : ℕ) → before_blanks (behind_blanks name) ≡ name → rule_judged name count ≡ None → IsNamed name
judged_name name count bare none = by_name (is_case_name name) (nat_lt LONGEST_RULE_NAME (length name)) (nat_le MOST_RULES count) refl refl none
  where
    by_name : (may long many : Bool) → is_case_name name ≡ may → nat_lt 200 (length name) ≡ long →
        (if not may then Some R1 else (if long || many then Some R5 else None)) ≡ None → IsNamed name
    by_name false long many is size none = let no : ⊥ = cc in absurd no
    by_name true true many is size none = let no : ⊥ = cc in absurd no
    by_name true false true is size none = let no : ⊥ = cc in absurd no
    by_name true false false is size none =
        let short : length name ≤ 200 = grind (arith, nat_tests) in (one_name name is, record { may = is; short = short; bare = bare })

-- ---- Values.

bit_short : (value : Option Bool) → IfSome (option_map bit value) (λ v. v < 65536)
bit_short None = tt
bit_short (Some true) = omega arith
bit_short (Some false) = omega arith

code_short : (kind : Kind) (code : Option ℕ) → IfSome (code_of_kind kind code) (λ v. v < 65536)
code_short kind None = tt
code_short kind (Some code) = chosen (is_state kind code) refl
  where
    chosen : (b : Bool) → is_state kind code ≡ b → IfSome (if b then Some code else None) (λ v. v < 65536)
    chosen true is = short_code kind code is
    chosen false is = tt

-- of two answers each of which has what is wanted, either has it
either_has : {A E : Type 0} (P : A → Type 0) (b : Bool) (r s : Result A E) → IfOk r P → IfOk s P → IfOk (if b then r else s) P
either_has P true r s first second = first
either_has P false r s first second = second

module _ (net : Network) where
  value_short : (name : Name) (word : List ℕ) → IfSome (value_of net name word) (λ v. v < 65536)
  value_short (Code i) word = code_short (kind_at net i) (four_digits word)
  value_short (Signal s) word = bit_short (truth_of word)
  value_short (Pin i j) word = bit_short (truth_of word)

  -- a value that can be written, and is read again
  abbrev IsSaid : Name → ℕ → Type 0
  IsSaid name v = (v < 65536) × IsValued net name v

  value_said : (name : Name) (word : List ℕ) → IfSome (value_of net name word) (IsSaid name)
  value_said name word = both (value_of net name word) refl (value_short name word)
    where
      both : (found : Option ℕ) → value_of net name word ≡ found → IfSome found (λ v. v < 65536) → IfSome found (IsSaid name)
      both None is short = tt
      both (Some v) is short = (short, value_back net name word v is)

  one_more : (name : Name) (found : Option ℕ) (rest : List (List ℕ)) → IfSome found (IsSaid name) → All (IsSaid name) (filter_map (value_of net name) rest) →
      All (IsSaid name) (cons_option found (filter_map (value_of net name) rest))
  one_more name None rest short more = more
  one_more name (Some v) rest short more = All-cons (IsSaid name) v (filter_map (value_of net name) rest) short more

  pieces_said : (name : Name) (pieces : List (List ℕ)) → All (IsSaid name) (filter_map (value_of net name) pieces)
  pieces_said name [] = All-nil (IsSaid name)
  pieces_said name (piece ∷ rest) = one_more name (value_of net name piece) rest (value_said name piece) (pieces_said name rest)

  some_first : (found : Option ℕ) (more : Bool) (rest : List ℕ) → (is_some found && more) ≡ true → HasShape false (cons_option found rest)
  some_first None more rest are = let no : ⊥ = cc in absurd no
  some_first (Some v) more rest are = tt

  some_said : (name : Name) (pieces : List (List ℕ)) → 0 < length pieces → list_all (λ piece. is_some (value_of net name piece)) pieces ≡ true →
      HasShape false (filter_map (value_of net name) pieces)
  some_said name [] some are = absurd (omega (arith, some))
  some_said name (piece ∷ rest) some are =
      some_first (value_of net name piece) (list_all (λ p. is_some (value_of net name p)) rest) (filter_map (value_of net name) rest) are

  -- the values of a condition that is denied, or is not
  abbrev AreSaid : Name → (denied : Bool) → List ℕ → Type 0
  AreSaid name denied values = All (IsSaid name) values × HasShape denied values

  values_said : (name : Name) (word : List ℕ) → IfSome (values_of net name word) (AreSaid name false)
  values_said name word =
      chosen (list_all (λ piece. is_some (value_of net name piece)) (slice_split (λ b. b == 44) word)) refl
    where
      chosen : (b : Bool) → list_all (λ piece. is_some (value_of net name piece)) (slice_split (λ b. b == 44) word) ≡ b →
          IfSome (if b then Some (filter_map (value_of net name) (slice_split (λ c. c == 44) word)) else None) (AreSaid name false)
      chosen true are =
          let pieces = slice_split (λ c. c == 44) word in
          (pieces_said name pieces, some_said name pieces (omega (arith, length-slice_split (λ c. c == 44) word)) are)
      chosen false are = tt

  one_said : (name : Name) (value : Option ℕ) → IfSome value (IsSaid name) → IfSome (one_value value) (AreSaid name true)
  one_said name None short = tt
  one_said name (Some v) short = (All-cons (IsSaid name) v [] short (All-nil (IsSaid name)), tt)

  -- a name that is read again as it is written
  abbrev IsFound : Name × Bool → Type 0
  IsFound term = name_of net (name_text net term.0) ≡ Some term.0

  module _ (proper : HasProperNames net) where
    when_found : (before : Bool) (word : List ℕ) (found : Option Name) → name_of net word ≡ found → IfSome (named_when before found) IsFound
    when_found before word None is = tt
    when_found before word (Some name) is = name_back net proper word name is

    either_found : (b : Bool) (r s : Option (Name × Bool)) → IfSome r IsFound → IfSome s IsFound → IfSome (if b then r else s) IsFound
    either_found true r s first second = first
    either_found false r s first second = second

    term_found : (word : List ℕ) → IfSome (term_of net word) IsFound
    term_found word =
        let front = before_first is_at word in
        either_found (list_any is_at word) _ (named_when false (name_of net word))
        (either_found (bytes_eq (after_first is_at word) (codes "before")) (named_when true (name_of net front)) None
        (when_found true front (name_of net front) refl) tt)
        (when_found false word (name_of net word) refl)

    condition_told : (name : Name) (before denied : Bool) (values : Option (List ℕ)) → IsFound (name, before) → IfSome values (AreSaid name denied) →
        IfOk (condition_of name before denied values) (IsTold net)
    condition_told name before denied None found said = tt
    condition_told name before denied (Some values) found said = record {
      short = λ k d inside. (said.0 k d inside).0;
      named = found;
      valued = λ k d inside. (said.0 k d inside).1;
      shaped = said.1;
    }

    denied_told : (term : Option (Name × Bool)) (value : List ℕ) → IfSome term IsFound → IfOk (denied_said net term value) (IsTold net)
    denied_told None value found = tt
    denied_told (Some (name, before)) value found =
        condition_told name before true (one_value (value_of net name value)) found (one_said name (value_of net name value) (value_said name value))

    among_told : (term : Option (Name × Bool)) (value : List ℕ) → IfSome term IsFound → IfOk (among_said net term value) (IsTold net)
    among_told None value found = tt
    among_told (Some (name, before)) value found = condition_told name before false (values_of net name value) found (values_said name value)

    word_told : (word : List ℕ) → IfOk (condition_said net word) (IsTold net)
    word_told word =
        let name = name_part word in
        let value = value_part word in
        let bare = take (length name - 1) name in
        either_has (IsTold net) (has_equals word) (compare_said net name value) _
        (either_has (IsTold net) (is_denied name) (denied_said net (term_of net bare) value) (among_said net (term_of net name) value)
        (denied_told (term_of net bare) value (term_found bare)) (among_told (term_of net name) value (term_found name))) tt

    push_told : (found : Result (List Condition) Flaw) (next : Result Condition Flaw) → IfOk found (All (IsTold net)) → IfOk next (IsTold net) →
        IfOk (and_then found next) (All (IsTold net))
    push_told (Ok found) (Ok c) before told = All-push (IsTold net) found c before told
    push_told (Ok found) (Err s) before told = tt
    push_told (Err r) (Ok c) before told = tt
    push_told (Err r) (Err s) before told = tt

    all_told : (words : List (List ℕ)) (found : Result (List Condition) Flaw) → IfOk found (All (IsTold net)) →
        IfOk (fold (λ found word. and_then found (condition_said net word)) found words) (All (IsTold net))
    all_told [] found before = before
    all_told (word ∷ words) found before = all_told words (and_then found (condition_said net word)) (push_told found (condition_said net word) before (word_told word))

    conditions_told : (words : List (List ℕ)) → IfOk (conditions_said net words) (All (IsTold net))
    conditions_told words = all_told words (Ok []) (All-nil (IsTold net))

-- ---- Times.

-- scans come at times of 32 bits
abbrev pub IsShortPace : Pace → Type 0
IsShortPace (Every n) = n ≤ 4294967295
IsShortPace Any = Unit {0}

number_short : (found : Option ℕ) → IfOk (pace_of_number found) IsShortPace
number_short None = tt
number_short (Some n) = chosen (n == 0) (nat_lt LONGEST_PACE n) refl
  where
    chosen : (none far : Bool) → nat_lt 60000 n ≡ far → IfOk (if none then Err R1 else (if far then Err R5 else Ok (Every n))) IsShortPace
    chosen true far is = tt
    chosen false true is = tt
    chosen false false is = let near : n ≤ 60000 = grind (arith, nat_tests) in omega (arith, near)

pace_short : (words : List (List ℕ)) → IfOk (pace_said words) IsShortPace
pace_short words =
    let word = first_of words in
    either_has IsShortPace (is_none_left (others_of words)) (pace_of_word word) _
    (either_has IsShortPace (bytes_eq word (codes "any")) (Ok Any) _ tt
    (either_has IsShortPace (is_digits word) (pace_of_number (number_of word)) _ (number_short (number_of word)) tt)) tt

-- how scans come, where it is said
abbrev pub IsPaceShort : Option Pace → Type 0
IsPaceShort None = Unit {0}
IsPaceShort (Some pace) = IsShortPace pace

module _ (net : Network) (proper : HasProperNames net) where
  -- ---- Lines.

  -- what a line says can be written
  abbrev IsShort : Said → Type 0
  IsShort nothing = Unit {0}
  IsShort (paces pace) = IsShortPace pace
  IsShort (fixes settings) = Unit {0}
  IsShort (ties follow) = Unit {0}
  IsShort (starts settings) = Unit {0}
  IsShort (begins name) = before_blanks (behind_blanks name) ≡ name
  IsShort (asks conditions) = All (IsTold net) conditions
  IsShort (breaks flaw) = Unit {0}

  either_says : (b : Bool) (s t : Said) → IsShort s → IsShort t → IsShort (if b then s else t)
  either_says true s t first second = first
  either_says false s t first second = second

  said_short : {A : Type 0} (P : A → Type 0) (says : A → Said) (r : Result A Flaw) → ((a : A) → P a → IsShort (says a)) → IfOk r P → IsShort (said_or says r)
  said_short P says (Ok a) each short = each a short
  said_short P says (Err flaw) each short = tt

  free_short : {A : Type 0} (says : A → Said) (r : Result A Flaw) → ((a : A) → IsShort (says a)) → IsShort (said_or says r)
  free_short says (Ok a) each = each a
  free_short says (Err flaw) each = tt

  begins_short : (purpose : Purpose) (line : List ℕ) → IsShort (rule_begins purpose line)
  begins_short Never line = trimmed (drop 5 (behind_blanks line))
  begins_short Same line = tt

  module _ (purpose : Purpose) where
    setting_short : (word : List ℕ) (words : List (List ℕ)) → IsShort (setting_line net purpose word words)
    setting_short word words =
        let fix = said_or fixes (some_settings net words) in
        let tie = said_or ties (follow_said net purpose words) in
        let start = said_or starts (some_settings net words) in
        let is_fixed = bytes_eq word (codes "fixed") in
        let is_tied = bytes_eq word (codes "follows") in
        either_says (bytes_eq word (codes "every")) (said_or paces (pace_said words)) (if is_fixed then fix else (if is_tied then tie else start))
        (said_short IsShortPace paces (pace_said words) (λ pace short. short) (pace_short words))
        (either_says is_fixed fix (if is_tied then tie else start) (free_short fixes (some_settings net words) (λ settings. tt))
        (either_says is_tied tie start (free_short ties (follow_said net purpose words) (λ follow. tt)) (free_short starts (some_settings net words) (λ settings. tt))))

    words_short : (begun : Bool) (line : List ℕ) (words : List (List ℕ)) → IsShort (said_by_words net purpose begun line words)
    words_short begun line [] = tt
    words_short begun line (word ∷ words) =
        let conditions = said_or asks (conditions_said net (word ∷ words)) in
        let setting = setting_line net purpose word words in
        let early = if begun then breaks R1 else setting in
        let late = if begun then conditions else breaks R1 in
        either_says (bytes_eq word (codes "never")) (rule_begins purpose line) (if is_setting word then early else late) (begins_short purpose line)
        (either_says (is_setting word) early late (either_says begun (breaks R1) setting tt (setting_short word words))
        (either_says begun conditions (breaks R1)
        (said_short (All (IsTold net)) asks (conditions_said net (word ∷ words)) (λ cs short. short) (conditions_told net proper (word ∷ words))) tt))

  -- ---- Files.

  -- a rule can be written: its name in one line, and its values
  abbrev pub IsWritable : Rule → Type 0
  IsWritable rule = IsNamed rule.name × All (IsTold net) rule.conditions

  -- all of a file can be written
  pub record CanWrite (file : RulesFile) : Type 0 where
    pub rules : All IsWritable file.rules
    pub pace : IsPaceShort file.pace

  -- the name of a rule that has begun
  abbrev IsHead : Option Head → Type 0
  IsHead None = Unit {0}
  IsHead (Some head) = IsNamed head.name

  record IsDraft (d : Draft) : Type 0 where
    pub file : CanWrite d.file
    pub head : IsHead d.head
    pub conditions : All (IsTold net) d.conditions

  with_file_is : (d : Draft) (file : RulesFile) → IsDraft d → CanWrite file → IsDraft (with_file d file)
  with_file_is d file is can = record { file = can; head = is.head; conditions = is.conditions }

  paced_is : (d : Draft) (number : ℕ) (pace : Pace) → IsDraft d → IsShortPace pace → IfOk (paced_after d number pace) IsDraft
  paced_is d number pace is short =
      either_has IsDraft (is_some d.file.pace) (Err (at R1 number)) _ tt (with_file_is d _ is record { rules = is.file.rules; pace = short })

  settings_are : (with : RulesFile → Setting → RulesFile) → ((file : RulesFile) (s : Setting) → CanWrite file → CanWrite (with file s)) →
      (settings : List Setting) (d : Draft) (number : ℕ) → IsDraft d → IfOk (settings_after with d number settings) IsDraft
  settings_are with each [] d number is = is
  settings_are with each (s ∷ settings) d number is =
      either_has IsDraft (stands d.file s.input) (Err (at R4 number)) _ tt
      (settings_are with each settings (with_file d (with d.file s)) number (with_file_is d (with d.file s) is (each d.file s is.file)))

  tied_is : (d : Draft) (number : ℕ) (f : Follow) → IsDraft d → IfOk (tied_after d number f) IsDraft
  tied_is d number f is =
      either_has IsDraft (stands d.file f.input) (Err (at R4 number)) _ tt
      (with_file_is d (with_follow d.file f) is record { rules = is.file.rules; pace = is.file.pace })

  closed_is : (head : Option Head) (file : RulesFile) (conditions : List Condition) → CanWrite file → IsHead head → All (IsTold net) conditions →
      CanWrite (closed_by file head conditions)
  closed_is None file conditions can one short = can
  closed_is (Some head) file conditions can one short = record { rules = All-push IsWritable file.rules _ can.rules (one, short); pace = can.pace }

  begun_is : (d : Draft) (number : ℕ) (name : List ℕ) (flaw : Option Flaw) → (flaw ≡ None → IsNamed name) → IsDraft d →
      IfOk (rule_begun d number name flaw) IsDraft
  begun_is d number name (Some flaw) one is = tt
  begun_is d number name None one is = record {
    file = closed_is d.head d.file d.conditions is.file is.head is.conditions;
    head = one refl;
    conditions = All-nil (IsTold net);
  }

  unless_has : {A : Type 0} (P : A → Type 0) (refusal : Option RulesRefusal) (later : Result A RulesRefusal) → IfOk later P → IfOk (unless_bare refusal later) P
  unless_has P (Some refusal) later has = tt
  unless_has P None later has = has

  after_said : (d : Draft) (number : ℕ) (says : Said) → IsDraft d → IsShort says → IfOk (said_after d number says) IsDraft
  after_said d number nothing is short = is
  after_said d number (paces pace) is short = paced_is d number pace is short
  after_said d number (fixes settings) is short =
      settings_are with_fixed (λ file s can. record { rules = can.rules; pace = can.pace }) settings d number is
  after_said d number (ties follow) is short = tied_is d number follow is
  after_said d number (starts settings) is short =
      settings_are with_first (λ file s can. record { rules = can.rules; pace = can.pace }) settings d number is
  after_said d number (begins name) is short =
      let count = length (closed d).rules in
      unless_has IsDraft (bare_rule d.head d.conditions) _
      (begun_is d number name (rule_judged name count) (judged_name name count short) is)
  after_said d number (asks conditions) is short = record {
    file = is.file;
    head = is.head;
    conditions = All-append (IsTold net) d.conditions conditions is.conditions short;
  }
  after_said d number (breaks flaw) is short = tt

  then_has : (r : Result Draft RulesRefusal) (later : Draft → Result RulesFile RulesRefusal) → IfOk r IsDraft →
      ((behind : Draft) → IsDraft behind → IfOk (later behind) CanWrite) → IfOk (unless_refused r later) CanWrite
  then_has (Err refusal) later is more = tt
  then_has (Ok behind) later is more = more behind is

  no_lines_are : IsDraft no_lines
  no_lines_are = record { file = record { rules = All-nil IsWritable; pace = tt }; head = tt; conditions = All-nil (IsTold net) }

  module _ (purpose : Purpose) where
    after_bytes : (d : Draft) (number : ℕ) (line : List ℕ) → IsDraft d → IfOk (bytes_after net purpose d number line) IsDraft
    after_bytes d number line is =
        either_has IsDraft (nat_lt MOST_RULES_LINES number) (Err (at R5 number)) _ tt
        (after_said d number (line_said net purpose (has_begun d) line) is (words_short purpose (has_begun d) line (words_in line)))

    after_line : (d : Draft) (number : ℕ) (line : Line) → IsDraft d → IfOk (line_after net purpose d number line) IsDraft
    after_line d number (Kept line) is = after_bytes d number line is
    after_line d number (KeptLast line) is = after_bytes d number line is
    after_line d number Long is = tt
    after_line d number Large is = tt

    after_lines : (lines : List Line) (d : Draft) (number : ℕ) → IsDraft d → IfOk (lines_read net purpose d number lines) CanWrite
    after_lines [] d number is =
        let can = closed_is d.head d.file d.conditions is.file is.head is.conditions in
        unless_has CanWrite (bare_rule d.head d.conditions) _
        (unless_has CanWrite (wanted purpose d.head number) _ record { rules = can.rules; pace = can.pace })
    after_lines (line ∷ lines) d number is =
        then_has (line_after net purpose d number line) (λ behind. lines_read net purpose behind (number + 1) lines) (after_line d number line is)
        (λ behind more. after_lines lines behind (number + 1) more)

    -- so all of a file that was read
    pub file_writable : (text : List ℕ) (file : RulesFile) → rules_of net purpose text ≡ Ok file → CanWrite file
    file_writable text file is =
        subst (λ (r : Result RulesFile RulesRefusal). IfOk r CanWrite) is (after_lines (rules_lines text) no_lines 1 no_lines_are)
