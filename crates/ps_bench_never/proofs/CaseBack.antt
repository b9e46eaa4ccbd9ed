-- A case that is told is read as its scans.
use Rattle.std.proofs.Common.{◌≡◌, ◌≤◌, ◌<◌, ◌+◌, ◌-◌, ◌*◌, ◌/◌, ◌%◌, ◌^◌, ◌++◌, ◌∙◌, ◌==◌, ◌&&◌, ◌||◌, ℕ, zero, suc, List, [], ◌∷◌, Bool, true, false, not, Option, Some, None, Result, Ok, Err, IfOk, if◌then◌else◌, length, map, min, take, drop, get_or, flat_map, replicate, codes, decimal, nat_le, nat_lt, slice_index, refl, sym, ap, subst, arith, append_assoc}
use Rattle.std.specs.Prelude.{slice_get, slice_index_or}
use Rattle.std.specs.Option.{unwrap_or}
use Rattle.std.specs.Int.{to_be_bytes, w16}
use Rattle.std.specs.List.{All, filter, list_all, list_any, range_with_len}
use Rattle.std.specs.Char.{is_ascii_digit, to_ascii_uppercase}
use Rattle.std.specs.Str.{bytes_eq}
use Rattle.std.specs.Str.Lines.{strip_carriage_return}
use Rattle.std.proofs.lemmas.Bool.Decides.{nat_tests}
use Rattle.std.proofs.lemmas.Fmt.{digits_decimal}
use Rattle.std.proofs.lemmas.List.{append-nil, drop_all, get_or-map, drop_more, length-replicate}
use Rattle.std.proofs.lemmas.List.Folds.{list_all-append}
use Rattle.ps_lines.specs.Lines.{HasNoLineFeed, Line, RawLine, lines_from, raw_lines}
use Rattle.ps_lines.specs.Lines.Line.{Kept, Large, Long}
use Rattle.ps_lines.proofs.Cut.{raw_lines-ended}
use Rattle.ps_model.specs.Meaning.{Item}
use Rattle.ps_model.specs.Meaning.Item.{scan}
use Rattle.ps_model.specs.Network.{Network, declared_count, declared_signals, input_count, instance_count, instance_name, kind_at, names, no_instance, signal_name}
use Rattle.ps_model.specs.Blocks.{block}
use Rattle.ps_model.specs.Pins.{pin_names}
use Rattle.ps_model.specs.declared.kind.Kind.{Kind}
use Rattle.ps_model.specs.declared.kind.Kind.TheVariants.{Equivalent, Antivalent, EmergencyStop, Espe, ModeSelector, TwoHandTwo, TwoHandThree, GuardMonitoring, GuardLocking, EnableSwitch, SafetyRequest, OutControl, Edm}
use Rattle.ps_model.specs.declared.named.Instance.{Instance}
use Rattle.ps_model.specs.declared.named.Signal.{Signal}
use Rattle.ps_report.specs.Lines.{code_text}
use Rattle.ps_bench_names.specs.declared.name.Name.{Name}
use Rattle.ps_bench_names.specs.declared.name.Name.TheVariants.{Code, Pin, Signal as Signal_name}
use Rattle.hex.specs.Hex.{encode_with, lower_digits}
use Rattle.ps_model.specs.Sound.{IsSound}
use Rattle.ps_model.specs.declared.channel.ImageSizes.{ImageSizes}
use Rattle.ps_reach.specs.Asking.{Point, at_first}
use Rattle.ps_reach.specs.Promised.{SaysOfEach}
use Rattle.ps_reach.specs.Reaching.{behind, next_point, numbered}
use Rattle.ps_reach.specs.Telling as paced
use Rattle.ps_reach.specs.Telling.{inputs_from, scans_at}
use Rattle.ps_reach.specs.declared.asked.Asked.{Asked}
use Rattle.ps_reach.specs.declared.asked.InputRule.{InputRule}
use Rattle.ps_bench_names.specs.Words.{counted, words_in}
use Rattle.ps_bench_names.specs.declared.name.Setting.{Setting}
use Rattle.ps_bench_rules.specs.declared.rules.Condition.{Condition}
use Rattle.ps_bench_rules.specs.declared.rules.Rule.{Rule}
use Rattle.ps_bench_cases.proofs.ReadBack.{both_hold, digits_of_traces}
use Rattle.ps_bench_cases.specs.File.{act_after, bytes_after, case_begun, case_judged, cases_of, closed_by, coming, ended_by, fault_left, lines_read, no_lines, said_after, stated, unless_large, unless_refused}
use Rattle.ps_bench_cases.specs.Line.{alone, asked, case_name, checks_said, expect_of, expect_now, line_said, said_by_words}
use Rattle.ps_bench_cases.specs.Parts.{both}
use Rattle.ps_bench_cases.specs.Words.{number_said}
use Rattle.ps_bench_cases.specs.Meant.{items_from, items_made, items_of, set_by}
use Rattle.ps_bench_cases.specs.Stands.{is_over, one_scan, unless_over}
use Rattle.ps_bench_cases.specs.declared.case.Act.{Act}
use Rattle.ps_bench_cases.specs.declared.case.Act.TheVariants as act
use Rattle.ps_bench_cases.specs.declared.case.CaseFile.{CaseFile}
use Rattle.ps_bench_cases.specs.declared.case.Check.{Check}
use Rattle.ps_bench_cases.specs.declared.case.Expectation.{Expectation}
use Rattle.ps_bench_cases.specs.declared.case.Pace.{Pace}
use Rattle.ps_bench_cases.specs.declared.case.Statement.{Statement}
use Rattle.ps_bench_cases.specs.declared.case.Window.{Window}
use Rattle.ps_bench_cases.specs.declared.case.Window.TheVariants.{Now, Within, For as Throughout}
use Rattle.ps_bench_cases.specs.declared.limits.TheConstants.{LARGEST_CASE_FILE, LONGEST_CASE_LINE, MOST_CASE_LINES}
use Rattle.ps_bench_cases.specs.declared.rule.CaseRefusal.{CaseRefusal}
use Rattle.ps_bench_cases.specs.declared.rule.CaseRule.{CaseRule}
use Rattle.ps_bench_cases.specs.declared.rule.CaseRule.TheVariants.{K5}
use Rattle.ps_trace.specs.Faults.{first_of, others_of}
use Rattle.ps_trace.specs.Words.{words}
use Rattle.ps_bench_never.specs.Casing.{case_text, change_text, set_text, changes_text, expect_text, expected, gap_before, inputs_at, inputs_before, is_of_before, line_text, scan_line}
use Rattle.ps_bench_never.specs.Pieces.{condition_text, instance_text, name_text, pin_text, sign, signal_text, value_text, values_text}
use Rattle.ps_bench_never.specs.SameTelling.{difference_case, outputs_text}
use Rattle.ps_bench_never.specs.ReadBack.{CaseIsRead, HasPlainNames, HasShortValues, IsOneCaseOf, is_of_name, is_one_line}
use Rattle.ps_bench_never.proofs.ScanBack.{all_set, scan_done, settings_from, text_plain}

-- ---- Bytes of a line.

pub no_feed : (line : List ℕ) → is_one_line line ≡ true → HasNoLineFeed line
no_feed [] plain = refl
no_feed (b ∷ line) plain =
    let both = both_hold (nat_le 32 b) (is_one_line line) plain in
    let rest : list_any (λ c. c == 10) line ≡ false = no_feed line both.1 in
    let first : nat_le 32 b ≡ true = both.0 in
    grind (arith, nat_tests)

not_return : (line : List ℕ) (k : ℕ) → is_one_line line ≡ true → (slice_index line k == 13) ≡ false
not_return [] k plain = refl
not_return (b ∷ line) zero plain = let first : nat_le 32 b ≡ true = (both_hold (nat_le 32 b) (is_one_line line) plain).0 in grind (arith, nat_tests)
not_return (b ∷ line) (suc k) plain = not_return line k (both_hold (nat_le 32 b) (is_one_line line) plain).1

pub stripped : (line : List ℕ) → is_one_line line ≡ true → strip_carriage_return line ≡ line
stripped line plain = ap (λ (t : Bool). if t then take (length line - 1) line else line) (not_return line (length line - 1) plain)

pub one_both : (a b : List ℕ) → is_one_line a ≡ true → is_one_line b ≡ true → is_one_line (a ++ b) ≡ true
one_both a b first second = list_all-append (λ c. nat_le 32 c) a b ∙ ap (λ (t : Bool). t && is_one_line b) first ∙ second

one_digits : (ds : List ℕ) → list_all is_ascii_digit ds ≡ true → is_one_line ds ≡ true
one_digits [] are = refl
one_digits (b ∷ ds) are =
    let both = both_hold (is_ascii_digit b) (list_all is_ascii_digit ds) are in
    let digit : is_ascii_digit b ≡ true = both.0 in
    let rest : is_one_line ds ≡ true = one_digits ds both.1 in
    grind (arith, nat_tests)

one_name : (bytes : List ℕ) → list_all is_of_name bytes ≡ true → is_one_line bytes ≡ true
one_name [] are = refl
one_name (b ∷ bytes) are =
    let both = both_hold (is_of_name b) (list_all is_of_name bytes) are in
    let first : nat_lt 32 b ≡ true = (both_hold (nat_lt 32 b) (not (b == 35 || b == 61)) both.0).0 in
    let rest : is_one_line bytes ≡ true = one_name bytes both.1 in
    grind (arith, nat_tests)

pub one_each : {X : Type 0} (f : X → List ℕ) → ((x : X) → is_one_line (f x) ≡ true) → (xs : List X) → is_one_line (flat_map f xs) ≡ true
one_each f each [] = refl
one_each f each (x ∷ xs) = one_both (f x) (flat_map f xs) (each x) (one_each f each xs)

-- ---- A condition.

-- names of plain bytes
abbrev are_named : List (List ℕ) → Bool
are_named ns = list_all (λ n. list_all is_of_name n) ns

all_named : (ns : List (List ℕ)) → All (λ n. list_all is_of_name n ≡ true) ns → are_named ns ≡ true
all_named [] each = refl
all_named (n ∷ ns) each =
    ap (λ (t : Bool). t && are_named ns) (each 0 [] (omega arith)) ∙ all_named ns (λ k d inside. each (suc k) d (omega (arith, inside)))

named_at : (ns : List (List ℕ)) (i : ℕ) → are_named ns ≡ true → list_all is_of_name (get_or ns i []) ≡ true
named_at [] i are = refl
named_at (n ∷ ns) zero are = (both_hold (list_all is_of_name n) (are_named ns) are).0
named_at (n ∷ ns) (suc i) are = named_at ns i (both_hold (list_all is_of_name n) (are_named ns) are).1

named_or_none : (ns : List (List ℕ)) (i : ℕ) → are_named ns ≡ true → list_all is_of_name (unwrap_or (slice_get ns i) []) ≡ true
named_or_none [] i are = refl
named_or_none (n ∷ ns) zero are = (both_hold (list_all is_of_name n) (are_named ns) are).0
named_or_none (n ∷ ns) (suc i) are = named_or_none ns i (both_hold (list_all is_of_name n) (are_named ns) are).1

pins_named : (kind : Kind) → are_named (pin_names kind) ≡ true
unfolding block
pins_named Equivalent = refl
pins_named Antivalent = refl
pins_named EmergencyStop = refl
pins_named Espe = refl
pins_named ModeSelector = refl
pins_named TwoHandTwo = refl
pins_named TwoHandThree = refl
pins_named GuardMonitoring = refl
pins_named GuardLocking = refl
pins_named EnableSwitch = refl
pins_named SafetyRequest = refl
pins_named OutControl = refl
pins_named Edm = refl

-- a hexadecimal digit
digit_at : (ds : List ℕ) (k : ℕ) → list_all (λ d. nat_le 32 (to_ascii_uppercase d)) ds ≡ true → k < length ds → nat_le 32 (to_ascii_uppercase (slice_index ds k)) ≡ true
digit_at [] k are inside = absurd (omega (arith, inside))
digit_at (d ∷ ds) zero are inside = (both_hold (nat_le 32 (to_ascii_uppercase d)) (list_all (λ d. nat_le 32 (to_ascii_uppercase d)) ds) are).0
digit_at (d ∷ ds) (suc k) are inside =
    digit_at ds k (both_hold (nat_le 32 (to_ascii_uppercase d)) (list_all (λ d. nat_le 32 (to_ascii_uppercase d)) ds) are).1 (omega (arith, inside))

one_digit : (k : ℕ) → k < 16 → nat_le 32 (to_ascii_uppercase (slice_index lower_digits k)) ≡ true
one_digit k inside = digit_at lower_digits k refl inside

one_hex : (bytes : List ℕ) → All (λ b. b < 256) bytes → is_one_line (map to_ascii_uppercase (encode_with lower_digits bytes)) ≡ true
unfolding encode_with
one_hex [] each = refl
one_hex (b ∷ bytes) each =
    let small : b < 256 = each 0 0 (omega arith) in
    let more = is_one_line (map to_ascii_uppercase (encode_with lower_digits bytes)) in
    ap (λ (t : Bool). t && (nat_le 32 (to_ascii_uppercase (slice_index lower_digits (b % 16))) && more)) (one_digit (b / 16) (omega (arith, small)))
    ∙ ap (λ (t : Bool). t && more) (one_digit (b % 16) (omega arith))
    ∙ one_hex bytes (λ k d inside. each (suc k) d (omega (arith, inside)))

two_bytes : (v : ℕ) → All (λ b. b < 256) (to_be_bytes w16 v)
two_bytes v zero d inside = omega arith
two_bytes v (suc zero) d inside = omega arith
two_bytes v (suc (suc k)) d inside = absurd (omega (arith, inside))

one_code : (v : ℕ) → is_one_line (code_text v) ≡ true
one_code v = one_hex (to_be_bytes w16 v) (two_bytes v)

one_number : (v : ℕ) → v < 65536 → is_one_line (decimal v) ≡ true
one_number v small = let fits : v < 2 ^ 64 = omega arith in one_digits (decimal v) (digits_decimal digits_of_traces v fits)

one_value : (name : Name) (v : ℕ) → v < 65536 → is_one_line (value_text name v) ≡ true
one_value (Code i) v small = one_code v
one_value (Signal_name s) v small = one_number v small
one_value (Pin i j) v small = one_number v small

one_values_after : (name : Name) (vs : List ℕ) → All (λ v. v < 65536) vs → is_one_line (flat_map (λ v. codes "," ++ value_text name v) vs) ≡ true
one_values_after name [] each = refl
one_values_after name (v ∷ vs) each =
    one_both (codes "," ++ value_text name v) (flat_map (λ w. codes "," ++ value_text name w) vs)
    (one_both (codes ",") (value_text name v) refl (one_value name v (each 0 0 (omega arith))))
    (one_values_after name vs (λ k d inside. each (suc k) d (omega (arith, inside))))

one_values : (name : Name) (vs : List ℕ) → All (λ v. v < 65536) vs → is_one_line (values_text name vs) ≡ true
one_values name [] each = refl
one_values name (v ∷ vs) each =
    one_both (value_text name v) (flat_map (λ w. codes "," ++ value_text name w) vs) (one_value name v (each 0 0 (omega arith)))
    (one_values_after name vs (λ k d inside. each (suc k) d (omega (arith, inside))))

one_sign : (denied : Bool) → is_one_line (sign denied) ≡ true
one_sign true = refl
one_sign false = refl

module _ (net : Network) (sound : IsSound net) (plain_names : HasPlainNames net) where
  text_named : (s : ℕ) (b : Bool) → nat_lt s (declared_count net) ≡ b → is_one_line (signal_text net s) ≡ true
  text_named s true is =
      let inside : s < declared_count net = grind (arith, nat_tests) in one_name (signal_text net s) (text_plain net sound plain_names s inside)
  text_named s false is = ap (λ (t : Bool). is_one_line (if t then signal_name net s else [])) is

  -- the name of an instance
  instances_named : are_named (map (λ (i : Instance). i.name) net.instances) ≡ true
  instances_named =
      let declared = map (λ (s : Signal). s.name) (declared_signals net) in
      let instances = map (λ (i : Instance). i.name) net.instances in
      (both_hold (are_named declared) (are_named instances)
      (sym (list_all-append (λ n. list_all is_of_name n) declared instances) ∙ all_named (names net) plain_names)).1

  instance_one : (i : ℕ) (b : Bool) → nat_lt i (instance_count net) ≡ b → is_one_line (instance_text net i) ≡ true
  instance_one i true is =
      let inside : i < instance_count net = grind (arith, nat_tests) in
      ap (λ (t : Bool). is_one_line (if t then instance_name net i else [])) is
      ∙ ap is_one_line (sym (get_or-map (λ (x : Instance). x.name) net.instances i no_instance [] inside))
      ∙ one_name (get_or (map (λ (x : Instance). x.name) net.instances) i []) (named_at (map (λ (x : Instance). x.name) net.instances) i instances_named)
  instance_one i false is = ap (λ (t : Bool). is_one_line (if t then instance_name net i else [])) is

  pin_one : (i j : ℕ) (b : Bool) → nat_lt i (instance_count net) ≡ b → is_one_line (pin_text net i j) ≡ true
  pin_one i j true is =
      ap (λ (t : Bool). is_one_line (if t then unwrap_or (slice_get (pin_names (kind_at net i)) j) [] else [])) is
      ∙ one_name (unwrap_or (slice_get (pin_names (kind_at net i)) j) []) (named_or_none (pin_names (kind_at net i)) j (pins_named (kind_at net i)))
  pin_one i j false is = ap (λ (t : Bool). is_one_line (if t then unwrap_or (slice_get (pin_names (kind_at net i)) j) [] else [])) is

  name_one : (name : Name) → is_one_line (name_text net name) ≡ true
  name_one (Signal_name s) = text_named s (nat_lt s (declared_count net)) refl
  name_one (Code i) = instance_one i (nat_lt i (instance_count net)) refl
  name_one (Pin i j) =
      one_both (instance_text net i ++ codes ".") (pin_text net i j)
      (one_both (instance_text net i) (codes ".") (instance_one i (nat_lt i (instance_count net)) refl) refl)
      (pin_one i j (nat_lt i (instance_count net)) refl)

  pub condition_one : (c : Condition) → HasShortValues c → is_one_line (condition_text net c) ≡ true
  condition_one c short =
      one_both (codes " " ++ name_text net c.name ++ sign c.denied) (values_text c.name c.values)
      (one_both (codes " " ++ name_text net c.name) (sign c.denied) (one_both (codes " ") (name_text net c.name) refl (name_one c.name)) (one_sign c.denied))
      (one_values c.name c.values short)

-- ---- Values that are Ok.

-- what is Ok under a test that refuses
past : {A E : Type 0} (b : Bool) (e : E) (r : Result A E) (a : A) → (if b then Err e else r) ≡ Ok a → r ≡ Ok a
past true e r a is = let no : ⊥ = cc in absurd no
past false e r a is = is

-- what is Ok under a test that refuses is what it is
made_past : {A E : Type 0} (e : E) (y : A) (b : Bool) (x : A) → (if b then Err e else Ok y) ≡ Ok x → y ≡ x
made_past e y true x is = let no : ⊥ = cc in absurd no
made_past e y false x is = cc

-- ---- One scan after another.

pub before_next : (scans : List (List Bool)) (i : ℕ) → inputs_before scans (i + 1) ≡ inputs_at scans i
before_next scans i =
    let far : (i + 1 == 0) ≡ false = grind (arith, nat_tests) in
    let back : i + 1 - 1 ≡ i = omega arith in
    ap (λ (t : Bool). if t then [] else inputs_at scans (i + 1 - 1)) far ∙ ap (inputs_at scans) back

pub gap_next : (every i : ℕ) → gap_before every (i + 1) ≡ every
gap_next every i =
    let far : (i + 1 == 0) ≡ false = grind (arith, nat_tests) in
    ap (λ (t : Bool). if t then 0 else every) far

-- the type of something
abbrev type_of : {A : Type 0} → A → Type 0
type_of {A} a = A

-- ---- The scans of statements.

-- the inputs after statements
abbrev ins_after : List Bool → List Statement → List Bool
ins_after ins [] = ins
ins_after ins (s ∷ ss) = ins_after (set_by ins s.settings) ss

ins_push : (ins : List Bool) (ss : List Statement) (s : Statement) → ins_after ins (ss ++ s ∷ []) ≡ set_by (ins_after ins ss) s.settings
ins_push ins [] s = refl
ins_push ins (x ∷ ss) s = ins_push (set_by ins x.settings) ss s

items_push : (ins : List Bool) (ss : List Statement) (s : Statement) →
    items_from ins (ss ++ s ∷ []) ≡ items_from ins ss ++ items_made (set_by (ins_after ins ss) s.settings) s.act
items_push ins [] s = append-nil (items_made (set_by ins s.settings) s.act)
items_push ins (x ∷ ss) s =
    let now = set_by ins x.settings in
    ap (λ (items : List Item). items_made now x.act ++ items) (items_push now ss s)
    ∙ sym (append_assoc (items_made now x.act) (items_from now ss) (items_made (set_by (ins_after now ss) s.settings) s.act))

-- a scan at a time
abbrev pub pace_to : (from target : ℕ) → Pace
pace_to from target = record { from = from; step = target - from; upto = target; count = 1 }

one_made : (ins : List Bool) (from gap : ℕ) → items_made ins (act.Scans (pace_to from (from + gap))) ≡ scan (from + gap) ins ∷ []
one_made ins from gap =
    let time : min (from + 1 * (from + gap - from)) (from + gap) ≡ from + gap = omega arith in
    ap (λ (now : ℕ). scan now ins ∷ []) time

module _ (net : Network) (sizes : ImageSizes) (total : List Item) where
  -- what the file is read as
  abbrev Read : Result CaseFile CaseRefusal → Type 0
  Read r = IfOk r (IsOneCaseOf net total)

  abbrev lines : ℕ → List ℕ → List Line
  lines at text = lines_from LARGEST_CASE_FILE LONGEST_CASE_LINE at (raw_lines text)

  abbrev no_file : CaseFile
  no_file = record { begin = []; cases = [] }

  abbrev start : List Bool
  start = replicate (input_count net) false

  -- a file as far as it was read
  abbrev Draft : Type 0
  Draft = type_of no_lines

  -- ---- A line.

  large_past : (d : Draft) (number : ℕ) (r : _) → (behind : Draft) → unless_large net number r ≡ Ok behind → r ≡ Ok behind
  large_past d number (Err refusal) behind is = let no : ⊥ = cc in absurd no
  large_past d number (Ok made) behind is = past _ _ (Ok made) behind is

  bytes_past : (d : Draft) (number : ℕ) (line : List ℕ) (behind : Draft) → bytes_after net sizes d number line ≡ Ok behind →
      said_after sizes d number (line_said net line) ≡ Ok behind
  bytes_past d number line behind is =
      large_past d number (said_after sizes d number (line_said net line)) behind
      (past (nat_lt MOST_CASE_LINES number) _ (unless_large net number (said_after sizes d number (line_said net line))) behind is)

  module _ (d : Draft) (number at : ℕ) (line : List ℕ) (more : List Line)
      (next : (behind : Draft) → said_after sizes d number (line_said net line) ≡ Ok behind → Read (lines_read net sizes behind (number + 1) more)) where
    by_answer : (r : _) → bytes_after net sizes d number line ≡ r → Read (unless_refused r (λ behind. lines_read net sizes behind (number + 1) more))
    by_answer (Err refusal) is = tt
    by_answer (Ok behind) is = next behind (bytes_past d number line behind is)

    by_length : (b : Bool) → Read (lines_read net sizes d number ((if b then Long else Kept line) ∷ more))
    by_length true = tt
    by_length false = by_answer (bytes_after net sizes d number line) refl

    by_size : (b : Bool) → Read (lines_read net sizes d number ((if b then Large else (if nat_lt LONGEST_CASE_LINE (length line) then Long else Kept line)) ∷ more))
    by_size true = tt
    by_size false = by_length (nat_lt LONGEST_CASE_LINE (length line))

  -- a line that is ended, and what is after it
  line_step : (d : Draft) (number at : ℕ) (line rest : List ℕ) → is_one_line line ≡ true →
      ((behind : Draft) → said_after sizes d number (line_said net line) ≡ Ok behind → Read (lines_read net sizes behind (number + 1) (lines (at + (length line + 1)) rest))) →
      Read (lines_read net sizes d number (lines at (line ++ 10 ∷ rest)))
  line_step d number at line rest one next =
      let more = lines (at + (length line + 1)) rest in
      let cut : lines at (line ++ 10 ∷ rest) ≡ (if nat_lt LARGEST_CASE_FILE (at + (length line + 1)) then Large
      else (if nat_lt LONGEST_CASE_LINE (length line) then Long else Kept line)) ∷ more =
      ap (λ (raw : List RawLine). lines_from LARGEST_CASE_FILE LONGEST_CASE_LINE at raw) (raw_lines-ended line rest (no_feed line one))
      ∙ ap (λ (kept : List ℕ). (if nat_lt LARGEST_CASE_FILE (at + (length line + 1)) then Large
      else (if nat_lt LONGEST_CASE_LINE (length line) then Long else Kept kept)) ∷ more) (stripped line one) in
      subst (λ (ls : List Line). Read (lines_read net sizes d number ls)) (sym cut)
      (by_size d number at line more next (nat_lt LARGEST_CASE_FILE (at + (length line + 1))))

  -- ---- The end.

  ended_past : (file : CaseFile) (head : _) (statements : List Statement) (number : ℕ) (left : Option CaseRefusal) → file ≡ no_file →
      items_of net statements ≡ total → Read (ended_by number (closed_by file head statements) head left)
  ended_past file None statements number left none items = tt
  ended_past file (Some head) statements number (Some refusal) none items = tt
  ended_past file (Some head) statements number None none items = record {
    case = record { line = head.line; name = head.name; statements = statements };
    begin = ap (λ (f : CaseFile). f.begin) none;
    only = ap (λ (f : CaseFile). f.cases ++ record { line = head.line; name = head.name; statements = statements } ∷ []) none;
    makes = items;
  }

  -- ---- What lines do.

  over_past : (d : Draft) (number : ℕ) (settings : List Setting) (x : Act) (rule : CaseRule) (b : Bool) (behind : Draft) →
      act_after d number settings (if b then Err rule else Ok x) ≡ Ok behind → stated d number settings x ≡ behind
  over_past d number settings x rule true behind is = let no : ⊥ = cc in absurd no
  over_past d number settings x rule false behind is = cc

  act_past : (d : Draft) (number : ℕ) (settings : List Setting) (a : Result Act CaseRule) (behind : Draft) →
      act_after d number settings (unless_over d.stand a) ≡ Ok behind → (x : Act) × (a ≡ Ok x) × (stated d number settings x ≡ behind)
  act_past d number settings (Err rule) behind is = let no : ⊥ = cc in absurd no
  act_past d number settings (Ok x) behind is = (x, refl, over_past d number settings x _ (is_over d.stand x) behind is)

  -- what is so of what was read: no case has ended, the last scan came at a time, and these scans were made, with these
  -- inputs in the end
  record Stands (d : Draft) (time : ℕ) (items : List Item) (ins : List Bool) : Type 0 where
    file : d.file ≡ no_file
    last : d.stand.time ≡ time
    made : items_from start d.statements ≡ items
    now : ins_after start d.statements ≡ ins

  -- one statement more
  stated_stands : (d : Draft) (number : ℕ) (settings : List Setting) (x : Act) (time time' : ℕ) (items : List Item) (ins ins' : List Bool) →
      Stands d time items ins → set_by ins settings ≡ ins' → (stated d number settings x).stand.time ≡ time' →
      Stands (stated d number settings x) time' (items ++ items_made ins' x) ins'
  stated_stands d number settings x time time' items ins ins' stands sets at =
      let s : Statement = record { line = number; settings = settings; act = x } in
      let next : set_by (ins_after start d.statements) settings ≡ ins' = ap (λ (i : List Bool). set_by i settings) stands.now ∙ sets in
      record {
        file = stands.file;
        last = at;
        made = items_push start d.statements s ∙ ap (λ (all : List Item). all ++ items_made (set_by (ins_after start d.statements) settings) x) stands.made
            ∙ ap (λ (i : List Bool). items ++ items_made i x) next;
        now = ins_push start d.statements s ∙ next;
      }

  -- ---- A scan.

  module _ (sound : IsSound net) (plain_names : HasPlainNames net) where
    pub one_set : (s : ℕ) (value : Bool) → is_one_line (set_text net s value) ≡ true
    one_set s true = one_both (32 ∷ signal_text net s) (codes "=1") (text_named net sound plain_names s (nat_lt s (declared_count net)) refl) refl
    one_set s false = one_both (32 ∷ signal_text net s) (codes "=0") (text_named net sound plain_names s (nat_lt s (declared_count net)) refl) refl

    one_change : (s : ℕ) (was is : Bool) → is_one_line (change_text net s was is) ≡ true
    one_change s true true = refl
    one_change s true false = one_set s false
    one_change s false true = one_set s true
    one_change s false false = refl

    pub one_scan_line : (gap : ℕ) → gap ≤ 4294967295 → (before values : List Bool) → is_one_line (scan_line net gap before values) ≡ true
    one_scan_line gap small before values =
        let fits : gap < 2 ^ 64 = omega arith in
        one_both (codes "  +" ++ decimal gap) (changes_text net before values)
        (one_both (codes "  +") (decimal gap) refl (one_digits (decimal gap) (digits_decimal digits_of_traces gap fits)))
        (one_each (λ i. change_text net i (slice_index_or before i false) (slice_index_or values i false))
        (λ i. one_change i (slice_index_or before i false) (slice_index_or values i false)) (range_with_len 0 (length values)))

    scan_past : (d : Draft) (number gap : ℕ) → gap ≤ 4294967295 → (before values : List Bool) → length before ≡ input_count net → length values ≡ input_count net →
        (time : ℕ) (items : List Item) → Stands d time items before → (behind : Draft) →
        said_after sizes d number (line_said net (scan_line net gap before values)) ≡ Ok behind →
        Stands behind (time + gap) (items ++ scan (time + gap) values ∷ []) values
    scan_past d number gap small before values size size' time items stands behind is =
        let settings = settings_from net sound plain_names before values 0 (length values) in
        let sets : set_by before settings ≡ values = all_set net sound plain_names before values 0 (length values) (omega arith) before
        record { new = λ j below. absurd (omega (arith, below)); old = λ j above. refl; size = size ∙ sym size' } in
        let done = act_past d number settings (one_scan d.stand (d.stand.time + gap)) behind
        (sym (scan_done net sound plain_names sizes d number gap small before values size size') ∙ is) in
        let pace : act.Scans (pace_to d.stand.time (d.stand.time + gap)) ≡ done.0 = made_past _ _ _ done.0 done.1 in
        let is_time : d.stand.time ≡ time = stands.last in
        let scans : done.0 ≡ act.Scans (pace_to time (time + gap)) = sym pace ∙ ap (λ (t : ℕ). act.Scans (pace_to t (t + gap))) is_time in
        subst (λ (b : Draft). Stands b (time + gap) (items ++ scan (time + gap) values ∷ []) values) done.2
        (subst (λ (x : Act). Stands (stated d number settings x) (time + gap) (items ++ scan (time + gap) values ∷ []) values) (sym scans)
        (subst (λ (more : List Item). Stands (stated d number settings (act.Scans (pace_to time (time + gap)))) (time + gap) (items ++ more) values) (one_made values time gap)
        (stated_stands d number settings (act.Scans (pace_to time (time + gap))) time (time + gap) items before values stands sets refl)))

  -- ---- What is expected.

  -- what is expected makes no scan
  expect_stands : (d : Draft) (number : ℕ) (e : Expectation) (time : ℕ) (items : List Item) (ins : List Bool) → Stands d time items ins →
      Stands (stated d number [] (act.Expect e)) time items ins
  expect_stands d number e time items ins stands =
      subst (λ (all : List Item). Stands (stated d number [] (act.Expect e)) time all ins) (append-nil items)
      (stated_stands d number [] (act.Expect e) time time items ins ins stands refl stands.last)

  expected_past : (d : Draft) (number : ℕ) (window : ℕ → Window) (r : Result (ℕ × List Check) CaseRule) (behind : Draft) (time : ℕ) (items : List Item) (ins : List Bool) →
      Stands d time items ins → said_after sizes d number (asked (alone (expect_of window r))) ≡ Ok behind → Stands behind time items ins
  expected_past d number window (Err rule) behind time items ins stands is = let no : ⊥ = cc in absurd no
  expected_past d number window (Ok (n, checks)) behind time items ins stands is =
      let e : Expectation = record { scan = d.stand.scans; window = window n; checks = checks } in
      let done = act_past d number [] (if d.stand.scans == 0 then Err K5 else Ok (act.Expect e)) behind is in
      let what : act.Expect e ≡ done.0 = made_past K5 (act.Expect e) (d.stand.scans == 0) done.0 done.1 in
      subst (λ (b : Draft). Stands b time items ins) done.2
      (subst (λ (x : Act). Stands (stated d number [] x) time items ins) what (expect_stands d number e time items ins stands))

  now_past : (d : Draft) (number : ℕ) (r : Result (List Check) CaseRule) (behind : Draft) (time : ℕ) (items : List Item) (ins : List Bool) →
      Stands d time items ins → said_after sizes d number (asked (alone (expect_now r))) ≡ Ok behind → Stands behind time items ins
  now_past d number (Err rule) behind time items ins stands is = let no : ⊥ = cc in absurd no
  now_past d number (Ok checks) behind time items ins stands is =
      let e : Expectation = record { scan = d.stand.scans; window = Now; checks = checks } in
      let done = act_past d number [] (if d.stand.scans == 0 then Err K5 else Ok (act.Expect e)) behind is in
      let what : act.Expect e ≡ done.0 = made_past K5 (act.Expect e) (d.stand.scans == 0) done.0 done.1 in
      subst (λ (b : Draft). Stands b time items ins) done.2
      (subst (λ (x : Act). Stands (stated d number [] x) time items ins) what (expect_stands d number e time items ins stands))

  windows_past : (d : Draft) (number : ℕ) (within for : Bool) (r s : Result (ℕ × List Check) CaseRule) (t : Result (List Check) CaseRule) (behind : Draft)
      (time : ℕ) (items : List Item) (ins : List Bool) → Stands d time items ins →
      said_after sizes d number (asked (alone (if within then expect_of Within r else if for then expect_of Throughout s else expect_now t))) ≡ Ok behind →
      Stands behind time items ins
  windows_past d number true for r s t behind time items ins stands is = expected_past d number Within r behind time items ins stands is
  windows_past d number false true r s t behind time items ins stands is = expected_past d number Throughout s behind time items ins stands is
  windows_past d number false false r s t behind time items ins stands is = now_past d number t behind time items ins stands is

  -- words behind `expect`, each after a space
  module _ {X : Type 0} (text : X → List ℕ) where
    abbrev words_text : List X → List ℕ
    words_text xs = flat_map (λ x. 32 ∷ text x) xs

    expect_words : (xs : List X) → words_in (codes "  expect" ++ words_text xs) ≡ codes "expect" ∷ counted (words (words_text xs))
    expect_words [] = refl
    expect_words (x ∷ xs) = refl

    expect_past : (d : Draft) (number : ℕ) (xs : List X) (behind : Draft) (time : ℕ) (items : List Item) (ins : List Bool) → Stands d time items ins →
        said_after sizes d number (line_said net (codes "  expect" ++ words_text xs)) ≡ Ok behind → Stands behind time items ins
    expect_past d number xs behind time items ins stands is =
        let line = codes "  expect" ++ words_text xs in
        let ws = counted (words (words_text xs)) in
        let checks = both (number_said (first_of (others_of ws))) (checks_said net (others_of (others_of ws))) in
        windows_past d number (bytes_eq (first_of ws) (codes "within")) (bytes_eq (first_of ws) (codes "for")) checks checks (checks_said net ws)
        behind time items ins stands (sym (ap (λ (found : List (List ℕ)). said_after sizes d number (said_by_words net line found)) (expect_words xs)) ∙ is)

  -- conditions
  abbrev conditions_text : List Condition → List ℕ
  conditions_text cs = flat_map (condition_text net) cs

  -- the bytes of a condition after its space
  abbrev after_space : Condition → List ℕ
  after_space c = name_text net c.name ++ sign c.denied ++ values_text c.name c.values

  -- ---- The `case` line.

  ok_is : (a b : Draft) (r : Result Draft CaseRefusal) → r ≡ Ok a → r ≡ Ok b → a ≡ b
  ok_is a b r first second = cc

  begun_past : (name : List ℕ) (rule : Option CaseRule) (behind : Draft) → case_begun no_lines 1 name (coming no_lines) rule ≡ Ok behind → Stands behind 0 [] start
  begun_past name (Some rule) behind is = let no : ⊥ = cc in absurd no
  begun_past name None behind is =
      subst (λ (b : Draft). Stands b 0 [] start) (ok_is _ behind (case_begun no_lines 1 name (coming no_lines) None) refl is)
      record { file = refl; last = refl; made = refl; now = refl }

  case_past : (name : List ℕ) (behind : Draft) → said_after sizes no_lines 1 (line_said net (codes "case " ++ name)) ≡ Ok behind → Stands behind 0 [] start
  case_past name behind is =
      let own = case_name (codes "case " ++ name) in begun_past own (case_judged own (coming no_lines)) behind is

  -- ---- All lines.

  module _ (sound : IsSound net) (plain_names : HasPlainNames net) (every : ℕ) (small : every ≤ 4294967295) (cs : List Condition)
      (plain_cs : All HasShortValues cs) (scans : List (List Bool)) (sizes_are : All (λ ins. length ins ≡ input_count net) scans)
      (tail : List ℕ)
      (ends : (d : Draft) (number at time : ℕ) (ins : List Bool) → Stands d time total ins → Read (lines_read net sizes d number (lines at tail))) where
    -- the conditions that are kept are one line
    kept_one : (c : Condition) (rest : List Condition) (b : Bool) → is_one_line (condition_text net c) ≡ true → is_one_line (conditions_text rest) ≡ true →
        is_one_line (conditions_text (if b then c ∷ rest else rest)) ≡ true
    kept_one c rest true first more = one_both (condition_text net c) (conditions_text rest) first more
    kept_one c rest false first more = more

    filtered_one : (p : Condition → Bool) (xs : List Condition) → All HasShortValues xs → is_one_line (conditions_text (filter p xs)) ≡ true
    filtered_one p [] are = refl
    filtered_one p (c ∷ xs) are =
        kept_one c (filter p xs) (p c) (condition_one net sound plain_names c (are 0 c (omega arith))) (filtered_one p xs (λ k d inside. are (suc k) d (omega (arith, inside))))

    -- what comes after what is expected, which is written or not
    expect_step : (before some : Bool) (d : Draft) (number at : ℕ) (rest : List ℕ) (time : ℕ) (items : List Item) (ins : List Bool) → Stands d time items ins →
        ((d' : Draft) (number' at' : ℕ) → Stands d' time items ins → Read (lines_read net sizes d' number' (lines at' rest))) →
        Read (lines_read net sizes d number
        (lines at ((if some then codes "  expect" ++ conditions_text (filter (is_of_before before) cs) ++ codes "\n" else []) ++ rest)))
    expect_step before true d number at rest time items ins stands next =
        let kept = filter (is_of_before before) cs in
        let line = codes "  expect" ++ conditions_text kept in
        subst (λ (t : List ℕ). Read (lines_read net sizes d number (lines at t))) (sym (append_assoc line (10 ∷ []) rest))
        (line_step d number at line rest (one_both (codes "  expect") (conditions_text kept) refl (filtered_one (is_of_before before) cs plain_cs))
        (λ behind is. next behind (number + 1) (at + (length line + 1)) (expect_past after_space d number kept behind time items ins stands is)))
    expect_step before false d number at rest time items ins stands next = next d number at stands

    expected_step : (last one : Bool) (d : Draft) (number at : ℕ) (rest : List ℕ) (time : ℕ) (items : List Item) (ins : List Bool) → Stands d time items ins →
        ((d' : Draft) (number' at' : ℕ) → Stands d' time items ins → Read (lines_read net sizes d' number' (lines at' rest))) →
        Read (lines_read net sizes d number (lines at ((if last then expect_text net false cs else if one then expect_text net true cs else []) ++ rest)))
    expected_step true one d number at rest time items ins stands next =
        expect_step false (list_any (is_of_before false) cs) d number at rest time items ins stands next
    expected_step false true d number at rest time items ins stands next =
        expect_step true (list_any (is_of_before true) cs) d number at rest time items ins stands next
    expected_step false false d number at rest time items ins stands next = next d number at stands

    -- inputs that are read alike are written alike
    same_line : (gap : ℕ) (before ins values : List Bool) → ((j : ℕ) → slice_index_or before j false ≡ slice_index_or ins j false) →
        scan_line net gap before values ≡ scan_line net gap ins values
    same_line gap before ins values same = λ x.
        codes "  +" ++ decimal gap ++ flat_map (λ j. change_text net j (same j x) (slice_index_or values j false)) (range_with_len 0 (length values))

    gap_small : (b : Bool) → (if b then 0 else every) ≤ 4294967295
    gap_small true = omega arith
    gap_small false = small

    lines_are_read : (n i : ℕ) → i + n ≡ length scans → (d : Draft) (number at time now : ℕ) (items : List Item) (ins : List Bool) → Stands d time items ins →
        time + gap_before every i ≡ now → length ins ≡ input_count net → ((j : ℕ) → slice_index_or (inputs_before scans i) j false ≡ slice_index_or ins j false) →
        items ++ scans_at now every (drop i scans) ≡ total →
        Read (lines_read net sizes d number (lines at (flat_map (line_text net every cs scans) (range_with_len i n) ++ tail)))
    lines_are_read zero i all d number at time now items ins stands when size same left =
        let none : drop i scans ≡ [] = drop_all i scans (omega (arith, all)) in
        ends d number at time ins
        (subst (λ (all_items : List Item). Stands d time all_items ins)
        (sym (append-nil items) ∙ ap (λ (more : List (List Bool)). items ++ scans_at now every more) (sym none) ∙ left) stands)
    lines_are_read (suc n) i all d number at time now items ins stands when size same left =
        let inside : i < length scans = omega (arith, all) in
        let values = inputs_at scans i in
        let gap = gap_before every i in
        let line = scan_line net gap (inputs_before scans i) values in
        let own = scan_line net gap ins values in
        let after = expected net cs (length scans - 1 - i) in
        let others = flat_map (line_text net every cs scans) (range_with_len (i + 1) n) in
        let rest = others ++ tail in
        let is_line : line ≡ own = same_line gap (inputs_before scans i) ins values same in
        let text : ((line ++ codes "\n" ++ after) ++ others) ++ tail ≡ own ++ 10 ∷ (after ++ rest) =
        append_assoc (line ++ codes "\n" ++ after) others tail ∙ append_assoc (line ++ codes "\n") after rest ∙ append_assoc line (10 ∷ []) (after ++ rest) ∙ ap (λ (l : List ℕ). l ++ 10 ∷ (after ++ rest)) is_line in
        let few : gap ≤ 4294967295 = gap_small (i == 0) in
        let size' : length values ≡ input_count net = sizes_are i [] inside in
        let next_before : inputs_before scans (i + 1) ≡ values = before_next scans i in
        let next_gap : gap_before every (i + 1) ≡ every = gap_next every i in
        let more : drop i scans ≡ values ∷ drop (i + 1) scans = drop_more scans i [] inside in
        let left' : (items ++ scan now values ∷ []) ++ scans_at (now + every) every (drop (i + 1) scans) ≡ total =
        append_assoc items (scan now values ∷ []) (scans_at (now + every) every (drop (i + 1) scans))
        ∙ ap (λ (xs : List (List Bool)). items ++ scans_at now every xs) (sym more) ∙ left in
        subst (λ (t : List ℕ). Read (lines_read net sizes d number (lines at t))) (sym text)
        (line_step d number at own (after ++ rest) (one_scan_line sound plain_names gap few ins values)
        (λ behind is. expected_step (length scans - 1 - i == 0) (length scans - 1 - i == 1) behind (number + 1) (at + (length own + 1)) rest now (items ++ scan now values ∷ []) values
        (subst (λ (t : ℕ). Stands behind t (items ++ scan t values ∷ []) values) when
        (scan_past sound plain_names d number gap few ins values size size' time items stands behind is))
        (λ d' number' at' stands'. lines_are_read n (i + 1) (omega (arith, all)) d' number' at' now (now + every) (items ++ scan now values ∷ []) values stands'
        (ap (λ (g : ℕ). now + g) next_gap) size' (λ j. ap (λ (b : List Bool). slice_index_or b j false) next_before) left')))

pub all_false : (n j : ℕ) → false ≡ slice_index_or (replicate n false) j false
all_false zero j = refl
all_false (suc n) zero = refl
all_false (suc n) (suc j) = all_false n j

module _ (net : Network) (sizes : ImageSizes) (sound : IsSound net) (plain_names : HasPlainNames net) (every : ℕ) (small : every ≤ 4294967295)
    (scans : List (List Bool)) (sizes_are : All (λ ins. length ins ≡ input_count net) scans) where
  abbrev all_items : List Item
  all_items = scans_at 0 every scans

  -- the end of the file
  at_end : (d : Draft net sizes all_items) (number at time : ℕ) (ins : List Bool) → Stands net sizes all_items d time all_items ins →
      Read net sizes all_items (lines_read net sizes d number (lines net sizes all_items at []))
  at_end d number at time ins stands =
      ended_past net sizes all_items d.file d.head d.statements number (fault_left d.head d.stand.waiting) stands.file stands.made

  -- a case, and after its scans bytes that are read as no scan
  case_before : (name : List ℕ) → is_one_line name ≡ true → (cs : List Condition) → All HasShortValues cs → (tail : List ℕ) →
      ((d : Draft net sizes all_items) (number at time : ℕ) (ins : List Bool) → Stands net sizes all_items d time all_items ins →
      Read net sizes all_items (lines_read net sizes d number (lines net sizes all_items at tail))) →
      Read net sizes all_items (cases_of net sizes (case_text net name every cs scans ++ tail))
  case_before name one cs plain_cs tail ends =
      let head = codes "case " ++ name in
      let others = flat_map (line_text net every cs scans) (range_with_len 0 (length scans)) in
      let text : ((head ++ codes "\n") ++ others) ++ tail ≡ head ++ 10 ∷ (others ++ tail) =
      append_assoc (head ++ codes "\n") others tail ∙ append_assoc head (10 ∷ []) (others ++ tail) in
      subst (λ (t : List ℕ). Read net sizes all_items (lines_read net sizes no_lines 1 (lines net sizes all_items 0 t))) (sym text)
      (line_step net sizes all_items no_lines 1 0 head (others ++ tail) (one_both (codes "case ") name refl one)
      (λ behind is. lines_are_read net sizes all_items sound plain_names every small cs plain_cs scans sizes_are tail ends (length scans) 0 (omega arith) behind 2 _ 0 0 []
      (replicate (input_count net) false) (case_past net sizes all_items name behind is) refl (length-replicate (input_count net) false) (all_false (input_count net)) refl))

  -- an output with its value, after a space
  abbrev output_word : (values : List Bool) → ℕ → List ℕ
  output_word values o =
      signal_text net (input_count net + o) ++ (if slice_index_or values o false then codes "=1" else codes "=0")

  -- the outputs that are expected
  at_outputs : (values : List Bool) (d : Draft net sizes all_items) (number at time : ℕ) (ins : List Bool) → Stands net sizes all_items d time all_items ins →
      Read net sizes all_items (lines_read net sizes d number (lines net sizes all_items at (outputs_text net values)))
  at_outputs values d number at time ins stands =
      let places = range_with_len 0 (length net.outputs) in
      let words = flat_map (λ o. set_text net (input_count net + o) (slice_index_or values o false)) places in
      line_step net sizes all_items d number at (codes "  expect" ++ words) []
      (one_both (codes "  expect") words refl
      (one_each (λ o. set_text net (input_count net + o) (slice_index_or values o false))
      (λ o. one_set net sizes all_items sound plain_names (input_count net + o) (slice_index_or values o false)) places))
      (λ behind is. at_end behind (number + 1) 0 time ins
      (expect_past net sizes all_items (output_word values) d number places behind time all_items ins stands is))

pub case_is_read : CaseIsRead
case_is_read net sizes sound plain_names name one every small cs plain_cs scans sizes_are =
    subst (λ (t : List ℕ). Read net sizes (scans_at 0 every scans) (cases_of net sizes t)) (append-nil (case_text net name every cs scans))
    (case_before net sizes sound plain_names every small scans sizes_are name one cs plain_cs []
    (at_end net sizes sound plain_names every small scans sizes_are))

-- the inputs of each scan that was found are as many as there are
numbered_size : (rules : List InputRule) (p : Point) (a : ℕ) → length (numbered rules p a) ≡ length rules
numbered_size [] p a = refl
numbered_size (rule ∷ rules) p a = ap suc (numbered_size rules p (behind rule a))

pub found_sizes : (net : Network) (q : Asked) (p : Point) (path : List ℕ) → SaysOfEach net q → All (λ ins. length ins ≡ input_count net) (inputs_from net q p path)
found_sizes net q p [] says k d inside = absurd (omega (arith, inside))
found_sizes net q p (a ∷ path) says zero d inside = numbered_size q.inputs.items p a ∙ says
found_sizes net q p (a ∷ path) says (suc k) d inside = found_sizes net q (next_point net q p a) path says k d (omega (arith, inside))

pub found_back : (net : Network) (sizes : ImageSizes) → IsSound net → HasPlainNames net → (q : Asked) → SaysOfEach net q → q.every ≤ 4294967295 →
    (rule : Rule) → is_one_line rule.name ≡ true → All HasShortValues rule.conditions → (path : List ℕ) →
    Read net sizes (paced.items_of net q path) (cases_of net sizes (case_text net rule.name q.every rule.conditions (inputs_from net q (at_first net) path)))
found_back net sizes sound plain_names q says small rule one plain_cs path =
    case_is_read net sizes sound plain_names rule.name one q.every small rule.conditions plain_cs (inputs_from net q (at_first net) path)
    (found_sizes net q (at_first net) path says)

pub difference_back : (net : Network) (sizes : ImageSizes) → IsSound net → HasPlainNames net → (q : Asked) → SaysOfEach net q → q.every ≤ 4294967295 →
    (path : List ℕ) (values : List Bool) (place : ℕ) → Read net sizes (paced.items_of net q path) (cases_of net sizes (difference_case net q path values place))
difference_back net sizes sound plain_names q says small path values place =
    let scans = inputs_from net q (at_first net) path in
    let sizes_are = found_sizes net q (at_first net) path says in
    let every = q.every in
    let output = input_count net + place in
    case_before net sizes sound plain_names every small scans sizes_are (signal_text net output ++ codes " is as it was")
    (one_both (signal_text net output) (codes " is as it was")
    (text_named net sound plain_names output (nat_lt output (declared_count net)) refl) refl)
    [] (λ k d inside. absurd (omega (arith, inside))) (outputs_text net values) (at_outputs net sizes sound plain_names every small scans sizes_are values)
