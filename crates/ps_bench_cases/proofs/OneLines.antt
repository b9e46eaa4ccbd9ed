-- Names of cases and faults that a case file says are one line each of the trace of all cases.
use Rattle.std.proofs.Common.{◌≡◌, ◌≤◌, ◌<◌, ◌+◌, ◌-◌, ◌/◌, ◌%◌, ◌^◌, ◌++◌, ◌∙◌, ◌==◌, ◌||◌, ◌&&◌, ℕ, zero, suc, List, [], ◌∷◌, Bool, true, false, Some, None, Result, Ok, Err, IfOk, if◌then◌else◌, nat_lt, nat_le, length, take, drop, slice_index, codes, decimal, refl, sym, ap, arith}
use Rattle.std.specs.List.{list_all, list_any, prefix_len}
use Rattle.std.specs.Option.{ok_or}
use Rattle.std.specs.Char.{is_ascii_digit}
use Rattle.std.specs.Str.{bytes_eq}
use Rattle.std.specs.Str.Lines.{strip_carriage_return}
use Rattle.std.proofs.lemmas.Bool.Decides.{nat_tests}
use Rattle.std.proofs.lemmas.Fmt.{digits_decimal, length-decimal-le}
use Rattle.std.proofs.lemmas.List.{append_assoc, length-append}
use Rattle.std.proofs.lemmas.List.Folds.{list_any-append}
use Rattle.hex.specs.Hex.{decode_of, encode_lower, encode_with, lower_digits}
use Rattle.hex.specs.declared.error.FromHexError.{FromHexError}
use Rattle.hex.proofs.HexLemmas.{decode_of-ok, length-encode_with}
use Rattle.ps_lines.specs.Lines.{RawLine, Line, HasNoLineFeed, onto_first, raw_lines, bytes_of, kept_of, lines_from}
use Rattle.ps_lines.specs.Lines.RawLine.{Ended, Last}
use Rattle.ps_lines.specs.Lines.Line.{Kept, KeptLast, Long, Large}
use Rattle.ps_model.specs.declared.channel.Channel.{Channel}
use Rattle.ps_model.specs.declared.channel.Channel.TheVariants.{A, B}
use Rattle.ps_model.specs.declared.channel.Region.{Region}
use Rattle.ps_model.specs.declared.channel.Region.TheVariants.{Code, Cells}
use Rattle.ps_model.specs.declared.channel.Fault.{Fault as Strike}
use Rattle.ps_model.specs.Network.{Network}
use Rattle.ps_trace.specs.Words.{digits_value, is_blank, number_of}
use Rattle.ps_trace.specs.Faults.{bytes_said, channel_of, first_of, others_of, region_of, value_if_ok}
use Rattle.ps_bench_cases.specs.declared.rule.CaseRule.{CaseRule}
use Rattle.ps_bench_cases.specs.declared.rule.CaseRule.TheVariants.{K1, K4}
use Rattle.ps_bench_names.specs.declared.name.Setting.{Setting}
use Rattle.ps_bench_cases.specs.declared.case.Window.{Window}
use Rattle.ps_bench_cases.specs.declared.case.Window.TheVariants.{Within, For as Throughout}
use Rattle.ps_bench_cases.specs.declared.case.Check.{Check}
use Rattle.ps_bench_cases.specs.declared.deed.Deed.{Deed}
use Rattle.ps_bench_cases.specs.declared.deed.Deed.TheVariants.{Set, At, After, Times, For, Until, Restart, Fault}
use Rattle.ps_bench_cases.specs.Expanded.{fault_line, name_line, region_text, turn_text}
use Rattle.ps_bench_cases.specs.Legible.{IsLine}
use Rattle.ps_bench_cases.specs.Line.{Said, alone, asked, behind_every, case_name, checks_said, deed_of_two, deed_said, deed_with, every_said, expect_now, expect_of, expect_said, fault_said, first_byte, line_said, restart_said, said_by_words, set_said, settings_said, strike_of, struck_said, target_said, with_settings}
use Rattle.ps_bench_names.specs.Words.{behind_blanks, is_none_left}
use Rattle.ps_bench_cases.specs.Line.Said.{nothing, begins, asks, breaks}
use Rattle.ps_bench_cases.specs.Parts.{both}
use Rattle.ps_bench_cases.specs.Words.{above_zero, number_said}
use Rattle.ps_bench_names.specs.Words.{is_digits, words_in}
use Rattle.ps_bench_cases.proofs.ReadBack.{digits_of_traces}
use Rattle.ps_bench_cases.proofs.SaidInputs.{either_has}
use Rattle.ps_bench_cases.proofs.TraceBack.{no_feed, plain_digits}

-- ---- No line feed.

none_both : (a b : Bool) → (a || b) ≡ false → (a ≡ false) × (b ≡ false)
none_both true b none = cc
none_both false b none = (refl, none)

feed_take : (n : ℕ) (l : List ℕ) → HasNoLineFeed l → HasNoLineFeed (take n l)
feed_take zero [] none = refl
feed_take zero (b ∷ l) none = refl
feed_take (suc n) [] none = refl
feed_take (suc n) (b ∷ l) none =
    let both = none_both (b == 10) (list_any (λ c. c == 10) l) none in
    ap (λ (t : Bool). t || list_any (λ c. c == 10) (take n l)) both.0 ∙ feed_take n l both.1

feed_drop : (n : ℕ) (l : List ℕ) → HasNoLineFeed l → HasNoLineFeed (drop n l)
feed_drop zero [] none = none
feed_drop zero (b ∷ l) none = none
feed_drop (suc n) [] none = refl
feed_drop (suc n) (b ∷ l) none = feed_drop n l (none_both (b == 10) (list_any (λ c. c == 10) l) none).1

feed_append : (a b : List ℕ) → HasNoLineFeed a → HasNoLineFeed b → HasNoLineFeed (a ++ b)
feed_append a b first second = list_any-append (λ c. c == 10) a b ∙ ap (λ (t : Bool). t || list_any (λ c. c == 10) b) first ∙ second

feed_index : (l : List ℕ) (k : ℕ) → HasNoLineFeed l → (slice_index l k == 10) ≡ false
feed_index [] k none = refl
feed_index (b ∷ l) zero none = (none_both (b == 10) (list_any (λ c. c == 10) l) none).0
feed_index (b ∷ l) (suc k) none = feed_index l k (none_both (b == 10) (list_any (λ c. c == 10) l) none).1

-- a line of a text has none
abbrev IsRaw : RawLine → Type 0
IsRaw (Ended line) = HasNoLineFeed line
IsRaw (Last line) = HasNoLineFeed line

abbrev AreRaw : List RawLine → Type 0
AreRaw [] = Unit {0}
AreRaw (line ∷ lines) = IsRaw line × AreRaw lines

onto_raw : (b : ℕ) (lines : List RawLine) → (b == 10) ≡ false → AreRaw lines → AreRaw (onto_first b lines)
onto_raw b [] none raw = (ap (λ (t : Bool). t || false) none, tt)
onto_raw b (Ended line ∷ lines) none raw = (ap (λ (t : Bool). t || list_any (λ c. c == 10) line) none ∙ raw.0, raw.1)
onto_raw b (Last line ∷ lines) none raw = (ap (λ (t : Bool). t || list_any (λ c. c == 10) line) none ∙ raw.0, raw.1)

raw_either : (t : Bool) (b : ℕ) (lines : List RawLine) → (t ≡ false → (b == 10) ≡ false) → AreRaw lines → AreRaw (if t then Ended [] ∷ lines else onto_first b lines)
raw_either true b lines none raw = (refl, raw)
raw_either false b lines none raw = onto_raw b lines (none refl) raw

are_raw : (text : List ℕ) → AreRaw (raw_lines text)
are_raw [] = tt
are_raw (b ∷ bytes) = raw_either (b == 10) b (raw_lines bytes) (λ none. none) (are_raw bytes)

-- nor has one that is kept
abbrev pub IsCut : Line → Type 0
IsCut (Kept line) = HasNoLineFeed line
IsCut (KeptLast line) = HasNoLineFeed line
IsCut Long = Unit {0}
IsCut Large = Unit {0}

abbrev pub AreCut : List Line → Type 0
AreCut [] = Unit {0}
AreCut (line ∷ lines) = IsCut line × AreCut lines

cut_either : (t : Bool) (line other : Line) → IsCut line → IsCut other → IsCut (if t then line else other)
cut_either true line other first second = first
cut_either false line other first second = second

stripped : (t : Bool) (n : ℕ) (line : List ℕ) → HasNoLineFeed line → HasNoLineFeed (if t then take n line else line)
stripped true n line none = feed_take n line none
stripped false n line none = none

kept_cut : (longest : ℕ) (line : RawLine) → IsRaw line → IsCut (kept_of longest line)
kept_cut longest (Ended line) raw =
    cut_either (nat_lt longest (length line)) Long (Kept (strip_carriage_return line)) tt (stripped (slice_index line (length line - 1) == 13) (length line - 1) line raw)
kept_cut longest (Last line) raw = cut_either (nat_lt longest (length line)) Long (KeptLast line) tt raw

pub are_cut : (largest longest at : ℕ) (lines : List RawLine) → AreRaw lines → AreCut (lines_from largest longest at lines)
are_cut largest longest at [] raw = tt
are_cut largest longest at (line ∷ lines) raw =
    (cut_either (nat_lt largest (at + bytes_of line)) Large (kept_of longest line) tt (kept_cut longest line raw.0), are_cut largest longest (at + bytes_of line) lines raw.1)

pub text_cut : (largest longest : ℕ) (text : List ℕ) → AreCut (lines_from largest longest 0 (raw_lines text))
text_cut largest longest text = are_cut largest longest 0 (raw_lines text) (are_raw text)

-- ---- Names of cases.

pub name_one : (name : List ℕ) → HasNoLineFeed name → length name ≤ 200 → IsLine (name_line name)
name_one name none short = record {
  line = codes "# case " ++ name;
  is = sym (append_assoc (codes "# case ") name (codes "\n"));
  one = none;
  short = omega (arith, length-append (codes "# case ") name, short);
}

name_cut : (line : List ℕ) → HasNoLineFeed line → HasNoLineFeed (case_name line)
name_cut line none =
    let blanks = feed_drop (prefix_len is_blank line) line none in
    let behind = feed_drop 4 (behind_blanks line) blanks in
    let name = feed_drop (prefix_len is_blank (drop 4 (behind_blanks line))) (drop 4 (behind_blanks line)) behind in
    feed_take _ (behind_blanks (drop 4 (behind_blanks line))) name

-- ---- Faults.

-- a fault whose numbers are of 32 bits, and that has no more bytes than one may have
pub record IsSmallFault (fault : Strike) : Type 0 where
  pub turn : fault.turn ≤ 4294967295
  pub at : fault.at ≤ 4294967295
  pub bytes : length fault.bytes ≤ 256

digits_cut : (n : ℕ) → n ≤ 4294967295 → HasNoLineFeed (decimal n) × (length (decimal n) ≤ 10)
digits_cut n small =
    let fits : n < 2 ^ 64 = omega (arith, small) in
    (no_feed (decimal n) (plain_digits (decimal n) (digits_decimal digits_of_traces n fits)), length-decimal-le 10 n (omega arith) (omega (arith, small)) fits)

turn_cut : (t : Bool) (n : ℕ) → n ≤ 4294967295 → HasNoLineFeed (if t then [] else codes "turn " ++ (decimal n ++ codes " "))
    × (length (if t then [] else codes "turn " ++ (decimal n ++ codes " ")) ≤ 16)
turn_cut true n small = (refl, omega arith)
turn_cut false n small =
    let digits = digits_cut n small in
    (feed_append (codes "turn ") (decimal n ++ codes " ") refl (feed_append (decimal n) (codes " ") digits.0 refl), omega (arith, digits.1, length-append (decimal n) (codes " ")))

region_cut : (channel : Channel) (region : Region) → HasNoLineFeed (region_text channel region) × (length (region_text channel region) ≤ 9)
region_cut A Code = (refl, omega arith)
region_cut A Cells = (refl, omega arith)
region_cut B Code = (refl, omega arith)
region_cut B Cells = (refl, omega arith)

hex_cut : (bytes : List ℕ) → HasNoLineFeed (encode_with lower_digits bytes)
unfolding encode_with
hex_cut [] = refl
hex_cut (b ∷ bytes) =
    ap (λ (t : Bool). t || ((slice_index lower_digits (b % 16) == 10) || list_any (λ c. c == 10) (encode_with lower_digits bytes))) (feed_index lower_digits (b / 16) refl)
    ∙ ap (λ (t : Bool). t || list_any (λ c. c == 10) (encode_with lower_digits bytes)) (feed_index lower_digits (b % 16) refl)
    ∙ hex_cut bytes

pub fault_one : (fault : Strike) → IsSmallFault fault → IsLine (fault_line fault)
fault_one fault small =
    let turn = turn_text fault.turn in
    let region = region_text fault.channel fault.region in
    let at = decimal fault.at in
    let hex = encode_lower fault.bytes in
    let end = codes "\n" in
    let turns = turn_cut (fault.turn == 0) fault.turn small.turn in
    let regions = region_cut fault.channel fault.region in
    let ats = digits_cut fault.at small.at in
    let four = codes " " ++ hex in
    let three = at ++ four in
    let two = region ++ three in
    let one = turn ++ two in
    let moved : codes "# fault " ++ one ++ end ≡ fault_line fault =
    append_assoc (codes "# fault ") one end ∙ ap (λ (t : List ℕ). codes "# fault " ++ t) (append_assoc turn two end
    ∙ ap (λ (t : List ℕ). turn ++ t) (append_assoc region three end ∙ ap (λ (t : List ℕ). region ++ t) (append_assoc at four end
    ∙ ap (λ (t : List ℕ). at ++ t) (append_assoc (codes " ") hex end)))) in
    let cut : HasNoLineFeed one = feed_append turn two turns.0 (feed_append region three regions.0 (feed_append at four ats.0 (feed_append (codes " ") hex refl (hex_cut fault.bytes)))) in
    record {
      line = codes "# fault " ++ one;
      is = sym moved;
      one = feed_append (codes "# fault ") one refl cut;
      short = omega (arith, turns.1, regions.1, ats.1, small.bytes, length-encode_with lower_digits fault.bytes, length-append (codes "# fault ") one, length-append turn two, length-append region three, length-append at four, length-append (codes " ") hex);
    }

-- ---- What a line says of a fault.

-- a number of 32 bits
abbrev IsShort : ℕ → Type 0
IsShort n = n ≤ 4294967295

short_either : (t : Bool) (n : ℕ) → (t ≡ true → IsShort n) → IfOk (ok_or (if t then Some n else None) K4) IsShort
short_either true n small = small refl
short_either false n small = tt

short_of : (word : List ℕ) → IfOk (ok_or (number_of word) K4) IsShort
short_of [] = tt
short_of (b ∷ word) =
    short_either (list_all is_ascii_digit (b ∷ word) && nat_lt (digits_value (b ∷ word)) 4294967296) (digits_value (b ∷ word)) (λ is. grind (arith, nat_tests))

number_short : (word : List ℕ) → IfOk (number_said word) IsShort
number_short word = either_has IsShort (is_digits word) (ok_or (number_of word) K4) (Err K1) (short_of word) tt

above_short : (r : Result ℕ CaseRule) → IfOk r IsShort → IfOk (above_zero r) IsShort
above_short (Ok n) short = either_has IsShort (n == 0) (Err K1) (Ok n) tt short
above_short (Err rule) short = tt

abbrev AreFew : List ℕ → Type 0
AreFew bytes = length bytes ≤ 256

few_of : (word : List ℕ) (r : Result (List ℕ) FromHexError) → decode_of word ≡ r → length word ≤ 512 → IfOk (ok_or (value_if_ok r) K1) AreFew
few_of word (Ok bytes) is short = let decoded = decode_of-ok word bytes is in omega (arith, decoded.2, short)
few_of word (Err error) is short = tt

few_either : (t : Bool) (word : List ℕ) → (t ≡ true → length word ≤ 512) → IfOk (ok_or (if t then value_if_ok (decode_of word) else None) K1) AreFew
few_either true word short = few_of word (decode_of word) refl (short refl)
few_either false word short = tt

bytes_few : (word : List ℕ) → IfOk (ok_or (bytes_said word) K1) AreFew
bytes_few word = few_either (nat_lt 0 (length word) && nat_le (length word) 512) word (λ is. grind (arith, nat_tests))

both_ok : {X Y : Type 0} (P : X → Type 0) (Q : Y → Type 0) (r : Result X CaseRule) (s : Result Y CaseRule) → IfOk r P → IfOk s Q → IfOk (both r s) (λ p. P p.0 × Q p.1)
both_ok P Q (Ok a) (Ok b) first second = (first, second)
both_ok P Q (Ok a) (Err s) first second = tt
both_ok P Q (Err r) (Ok b) first second = tt
both_ok P Q (Err r) (Err s) first second = tt

abbrev Any : {X : Type 0} → X → Type 0
Any x = Unit {0}

any_ok : {X : Type 0} (r : Result X CaseRule) → IfOk r Any
any_ok (Ok x) = tt
any_ok (Err rule) = tt

-- the fault of a deed is small, if it is one
abbrev pub IsSmallDeed : Deed → Type 0
IsSmallDeed (Fault fault) = IsSmallFault fault
IsSmallDeed _ = Unit {0}

strike_small : (r : Result (ℕ × (Channel × (Region × (ℕ × List ℕ)))) CaseRule) →
    IfOk r (λ p. IsShort p.0 × (Any p.1.0 × (Any p.1.1.0 × (IsShort p.1.1.1.0 × AreFew p.1.1.1.1)))) → IfOk (strike_of r) IsSmallDeed
strike_small (Ok (turn, (channel, (region, (at, bytes))))) small = record { turn = small.0; at = small.1.1.1.0; bytes = small.1.1.1.1 }
strike_small (Err rule) small = tt

struck_small : (turn : Result ℕ CaseRule) (channel region offset bytes : List ℕ) → IfOk turn IsShort → IfOk (struck_said turn channel region offset bytes) IsSmallDeed
struck_small turn channel region offset bytes short =
    strike_small _ (both_ok IsShort _ turn _ short (both_ok Any _ (ok_or (channel_of channel) K1) _ (any_ok (ok_or (channel_of channel) K1))
    (both_ok Any _ (ok_or (region_of region) K1) _ (any_ok (ok_or (region_of region) K1)) (both_ok IsShort AreFew (number_said offset) (ok_or (bytes_said bytes) K1) (number_short offset) (bytes_few bytes)))))

target_small : (turn : Result ℕ CaseRule) (words : List (List ℕ)) → IfOk turn IsShort → IfOk (target_said turn words) IsSmallDeed
target_small turn words short =
    either_has IsSmallDeed (is_none_left (others_of (others_of (others_of (others_of words))))) (struck_said turn (first_of words) (first_of (others_of words)) (first_of (others_of (others_of words))) (first_of (others_of (others_of (others_of words))))) (Err K1)
    (struck_small turn (first_of words) (first_of (others_of words)) (first_of (others_of (others_of words))) (first_of (others_of (others_of (others_of words)))) short) tt

fault_small : (words : List (List ℕ)) → IfOk (fault_said words) IsSmallDeed
fault_small words =
    either_has IsSmallDeed (bytes_eq (first_of words) (codes "turn")) (target_said (above_zero (number_said (first_of (others_of words)))) (others_of (others_of words))) (target_said (Ok 0) words)
    (target_small (above_zero (number_said (first_of (others_of words)))) (others_of (others_of words)) (above_short (number_said (first_of (others_of words))) (number_short (first_of (others_of words)))))
    (target_small (Ok 0) words (omega arith))

-- other deeds are no faults
with_small : (made : ℕ → Deed) (r : Result ℕ CaseRule) → ((n : ℕ) → IsSmallDeed (made n)) → IfOk (deed_with made r) IsSmallDeed
with_small made (Ok n) small = small n
with_small made (Err rule) small = tt

two_small : (made : ℕ → ℕ → Deed) (r : Result (ℕ × ℕ) CaseRule) → ((a b : ℕ) → IsSmallDeed (made a b)) → IfOk (deed_of_two made r) IsSmallDeed
two_small made (Ok (a, b)) small = small a b
two_small made (Err rule) small = tt

every_small : (step key number : List ℕ) → IfOk (every_said step key number) IsSmallDeed
every_small step key number =
    either_has IsSmallDeed (bytes_eq key (codes "times")) (deed_of_two Times (both (number_said step) (number_said number))) _ (two_small Times (both (number_said step) (number_said number)) (λ a b. tt))
    (either_has IsSmallDeed (bytes_eq key (codes "for")) (deed_of_two For (both (above_zero (number_said step)) (number_said number))) _ (two_small For (both (above_zero (number_said step)) (number_said number)) (λ a b. tt))
    (either_has IsSmallDeed (bytes_eq key (codes "until")) (deed_of_two Until (both (above_zero (number_said step)) (number_said number))) (Err K1) (two_small Until (both (above_zero (number_said step)) (number_said number)) (λ a b. tt)) tt))

behind_small : (words : List (List ℕ)) → IfOk (behind_every words) IsSmallDeed
behind_small words =
    either_has IsSmallDeed (is_none_left (others_of (others_of (others_of words)))) (every_said (first_of words) (first_of (others_of words)) (first_of (others_of (others_of words)))) (Err K1)
    (every_small (first_of words) (first_of (others_of words)) (first_of (others_of (others_of words)))) tt

restart_small : (words : List (List ℕ)) → IfOk (restart_said words) IsSmallDeed
restart_small words = either_has IsSmallDeed (is_none_left words) (Ok Restart) (Err K1) tt tt

expect_of_small : (window : ℕ → Window) (r : Result (ℕ × List Check) CaseRule) → IfOk (expect_of window r) IsSmallDeed
expect_of_small window (Ok (d, checks)) = tt
expect_of_small window (Err rule) = tt

expect_now_small : (r : Result (List Check) CaseRule) → IfOk (expect_now r) IsSmallDeed
expect_now_small (Ok checks) = tt
expect_now_small (Err rule) = tt

module _ (net : Network) where
  expect_small : (words : List (List ℕ)) → IfOk (expect_said net words) IsSmallDeed
  expect_small words =
      let within = both (number_said (first_of (others_of words))) (checks_said net (others_of (others_of words))) in
      either_has IsSmallDeed (bytes_eq (first_of words) (codes "within")) (expect_of Within within) _ (expect_of_small Within within)
      (either_has IsSmallDeed (bytes_eq (first_of words) (codes "for")) (expect_of Throughout within) (expect_now (checks_said net words)) (expect_of_small Throughout within) (expect_now_small (checks_said net words)))

  -- what a line asks for
  abbrev HasSmall : Deed × List Setting → Type 0
  HasSmall asked = IsSmallDeed asked.0

  alone_small : (deed : Result Deed CaseRule) → IfOk deed IsSmallDeed → IfOk (alone deed) HasSmall
  alone_small (Ok deed) small = small
  alone_small (Err rule) small = tt

  settings_small : (deed : Result Deed CaseRule) (settings : Result (List Setting) CaseRule) → IfOk deed IsSmallDeed → IfOk (both deed settings) HasSmall
  settings_small (Ok deed) (Ok settings) small = small
  settings_small (Ok deed) (Err s) small = tt
  settings_small (Err r) (Ok settings) small = tt
  settings_small (Err r) (Err s) small = tt

  set_small : (words : List (List ℕ)) → IfOk (set_said net words) HasSmall
  set_small words = either_has HasSmall (is_none_left words) (Err K1) (with_settings net (Ok Set) words) tt (settings_small (Ok Set) (settings_said net words) tt)

  record Has (r : Result (Deed × List Setting) CaseRule) : Type 0 where
    ok : IfOk r HasSmall

  one_small : (b : Bool) (r s : Result (Deed × List Setting) CaseRule) → IfOk r HasSmall → Has s → Has (if b then r else s)
  one_small b r s first second = record { ok = either_has HasSmall b r s first second.ok }

  deed_small : (word : List ℕ) (words : List (List ℕ)) → IfOk (deed_said net word words) HasSmall
  deed_small word words =
      let none : Has (Err K1) = record { ok = tt } in
      let deed_after = deed_with After (number_said (drop 1 word)) in
      let deed_at = deed_with At (number_said (first_of words)) in
      let after = one_small (first_byte word == 43) (with_settings net deed_after words) (Err K1) (settings_small deed_after (settings_said net words) (with_small After (number_said (drop 1 word)) (λ n. tt))) none in
      let expect = one_small (bytes_eq word (codes "expect")) (alone (expect_said net words)) _ (alone_small (expect_said net words) (expect_small words)) after in
      let fault = one_small (bytes_eq word (codes "fault")) (alone (fault_said words)) _ (alone_small (fault_said words) (fault_small words)) expect in
      let restart = one_small (bytes_eq word (codes "restart")) (alone (restart_said words)) _ (alone_small (restart_said words) (restart_small words)) fault in
      let every = one_small (bytes_eq word (codes "every")) (alone (behind_every words)) _ (alone_small (behind_every words) (behind_small words)) restart in
      let at = one_small (bytes_eq word (codes "at")) (with_settings net deed_at (others_of words)) _ (settings_small deed_at (settings_said net (others_of words)) (with_small At (number_said (first_of words)) (λ n. tt))) every in
      (one_small (bytes_eq word (codes "set")) (set_said net words) _ (set_small words) at).ok

  -- a line says a name without a line feed, and a small fault
  abbrev pub SaysOne : Said → Type 0
  SaysOne nothing = Unit {0}
  SaysOne (begins name) = HasNoLineFeed name
  SaysOne (asks deed settings) = IsSmallDeed deed
  SaysOne (breaks rule) = Unit {0}

  asked_one : (r : Result (Deed × List Setting) CaseRule) → IfOk r HasSmall → SaysOne (asked r)
  asked_one (Ok both) small = small
  asked_one (Err rule) small = tt

  either_one : (b : Bool) (s t : Said) → SaysOne s → SaysOne t → SaysOne (if b then s else t)
  either_one true s t first second = first
  either_one false s t first second = second

  words_one : (line : List ℕ) (words : List (List ℕ)) → HasNoLineFeed line → SaysOne (said_by_words net line words)
  words_one line [] none = tt
  words_one line (word ∷ words) none = either_one (bytes_eq word (codes "case")) (begins (case_name line)) (asked (deed_said net word words)) (name_cut line none) (asked_one (deed_said net word words) (deed_small word words))

  pub line_one : (line : List ℕ) → HasNoLineFeed line → SaysOne (line_said net line)
  line_one line none = words_one line (words_in line) none
