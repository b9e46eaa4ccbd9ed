-- The scans of a trace have a value for each input, and times that do not fall.
use Rattle.std.proofs.Common.{◌≡◌, ◌≤◌, ◌<◌, ◌^◌, ℕ, Bool, true, false, cond, List, [], ◌∷◌, Option, Some, None, length, map, sym, subst, inl, inr}
use Rattle.std.specs.Prelude.{not, ◌==◌, ◌&&◌, nat_lt, is_some, slice_index_or}
use Rattle.std.specs.Char.{is_ascii_digit}
use Rattle.std.specs.List.{list_all, filter_map, range_with_len}
use Rattle.std.proofs.lemmas.Bool.{cases_Bool, ltb-true, ltb-false}
use Rattle.std.proofs.lemmas.List.{length-map}
use Rattle.std.proofs.lemmas.List.FromFn.{length-map-range_with_len}
use Rattle.ps_base.specs.declared.failing.Rule.TheVariants.{T2, T3, T4, T5, T7}
use Rattle.ps_lines.specs.Lines.{Line}
use Rattle.ps_lines.specs.Lines.Line.{Kept, KeptLast, Long, Large}
use Rattle.ps_model.specs.Network.{Network, input_count}
use Rattle.ps_machine.specs.Items.{AreTimely}
use Rattle.ps_trace.specs.Words.{fields, number_of, digits_value}
use Rattle.ps_trace.specs.Trace.{Said, value_of, scan_at_time, scan_line, is_restart, line_said}
use Rattle.ps_trace.specs.Trace.Said.{skips, restarts, scans, breaks}
use Rattle.ps_trace.specs.Header.{Header, header_said, names_said, names_another, not_once_each, inputs_named, place_of, input_names}
use Rattle.ps_trace.specs.Header.Header.{no_header, places, wrong}
use Rattle.ps_trace.specs.Scans.{Scans, Headed, said_of, last_after, onto_scans, number_after, scans_from, header_of, onto_headed, header_from, header_in, scans_behind, scans_of, trace_lines}
use Rattle.ps_trace.specs.Scans.Headed.{begins, fails}

-- what holds of both cases of a test
by_test : {X : Type 0} (P : X → Type 0) (b : Bool) (x y : X) → (b ≡ true → P x) → (b ≡ false → P y) → P (cond b x y)
by_test P b x y on_true on_false = elim (cases_Bool b) [
  | inl is ↦ subst (λ c. P (cond c x y)) (sym is) (on_true is)
  | inr is ↦ subst (λ c. P (cond c x y)) (sym is) (on_false is)
]

-- ---- Scan lines.

-- a scan line's time has 32 bits, and is not less than that of the last scan
abbrev IsTimed : ℕ → Said → Type 0
IsTimed last (scans now values) = (last ≤ now) × (now < 2 ^ 32)
IsTimed last skips = Unit {0}
IsTimed last restarts = Unit {0}
IsTimed last (breaks rule) = Unit {0}

-- a number that a word is has 32 bits
abbrev IsSmall : Option ℕ → Type 0
IsSmall None = Unit {0}
IsSmall (Some n) = n < 2 ^ 32

number_small : (word : List ℕ) → IsSmall (number_of word)
number_small [] = tt
number_small (b ∷ word) = by_test IsSmall (list_all is_ascii_digit (b ∷ word) && nat_lt (digits_value (b ∷ word)) 4294967296) (Some (digits_value (b ∷ word))) None
    (λ is. ltb-true (digits_value (b ∷ word)) 4294967296 (second (list_all is_ascii_digit (b ∷ word)) (nat_lt (digits_value (b ∷ word)) 4294967296) is)) (λ is. tt)
  where
    second : (a b : Bool) → (a && b) ≡ true → b ≡ true
    second true b is = is
    second false b is = cc

timed_at : (last : ℕ) (time : Option ℕ) (values : List Bool) → IsSmall time → IsTimed last (scan_at_time last time values)
timed_at last None values small = tt
timed_at last (Some now) values small = by_test (IsTimed last) (nat_lt now last) (breaks T7) (scans now values) (λ is. tt) (λ is. (ltb-false now last is, small))

scan_timed : (names last : ℕ) (time : List ℕ) (words : List (List ℕ)) → IsTimed last (scan_line names last time words)
scan_timed names last time words =
    let read = scan_at_time last (number_of time) (filter_map value_of words) in
    by_test (IsTimed last) (not (length words == names)) (breaks T4) (cond (not (list_all (λ word. is_some (value_of word)) words)) (breaks T5) read) (λ is. tt)
    (λ is. by_test (IsTimed last) (not (list_all (λ word. is_some (value_of word)) words)) (breaks T5) read (λ next_is. tt)
    (λ last_is. timed_at last (number_of time) (filter_map value_of words) (number_small time)))

line_timed : (names last : ℕ) (words : List (List ℕ)) → IsTimed last (line_said names last words)
line_timed names last [] = tt
line_timed names last (word ∷ words) =
    by_test (IsTimed last) (is_restart word words) restarts (scan_line names last word words) (λ is. tt) (λ is. scan_timed names last word words)

said_timed : (names last : ℕ) (line : Line) → IsTimed last (said_of names last line)
said_timed names last (Kept line) = line_timed names last (fields line)
said_timed names last (KeptLast line) = line_timed names last (fields line)
said_timed names last Long = tt
said_timed names last Large = tt

onto_timely : (found : List ℕ) (said : Said) (number last : ℕ) (later : Scans) → IsTimed last said → AreTimely (length found) (last_after said last) later.items →
    AreTimely (length found) last (onto_scans found said number later).items
onto_timely found skips number last later timed timely = timely
onto_timely found restarts number last later timed timely = timely
onto_timely found (scans now values) number last later timed timely = (timed.0, timed.1, length-map found (λ place. slice_index_or values place false), timely)
onto_timely found (breaks rule) number last later timed timely = tt

from_timely : (found : List ℕ) (number last : ℕ) (lines : List Line) → AreTimely (length found) last (scans_from found number last lines).items
from_timely found number last [] = tt
from_timely found number last (line ∷ lines) =
    let said = said_of (length found) last line in
    onto_timely found said number last (scans_from found (number_after line number) (last_after said last) lines) (said_timed (length found) last line)
    (from_timely found (number_after line number) (last_after said last) lines)

-- ---- The header.

-- a header gives a place for each name
abbrev HasPlaces : ℕ → Header → Type 0
HasPlaces n no_header = Unit {0}
HasPlaces n (places found) = length found ≡ n
HasPlaces n (wrong rule) = Unit {0}

names_place : (names words : List (List ℕ)) → HasPlaces (length names) (names_said names words)
names_place names words =
    let named = inputs_named names words in
    let found = places (map (place_of named) (range_with_len 0 (length names))) in
    by_test (HasPlaces (length names)) (names_another names words) (wrong T2) (cond (not_once_each (length names) named) (wrong T3) found) (λ is. tt)
    (λ is. by_test (HasPlaces (length names)) (not_once_each (length names) named) (wrong T3) found (λ next_is. tt) (λ last_is. length-map-range_with_len (place_of named) 0 (length names)))

words_place : (names words : List (List ℕ)) → HasPlaces (length names) (header_said names words)
words_place names [] = tt
words_place names (word ∷ words) = by_test (HasPlaces (length names)) _ (names_said names words) (wrong _) (λ is. names_place names words) (λ is. tt)

line_place : (names : List (List ℕ)) (line : Line) → HasPlaces (length names) (header_of names line)
line_place names (Kept line) = words_place names (fields line)
line_place names (KeptLast line) = words_place names (fields line)
line_place names Long = tt
line_place names Large = tt

-- the places after a header are as many as the names
abbrev ArePlaced : ℕ → Headed → Type 0
ArePlaced n (begins found number lines) = length found ≡ n
ArePlaced n (fails refusal) = Unit {0}

onto_placed : (n : ℕ) (header : Header) (number next : ℕ) (lines : List Line) (later : Headed) → HasPlaces n header → ArePlaced n later → ArePlaced n (onto_headed header number next lines later)
onto_placed n no_header number next lines later here placed = placed
onto_placed n (places found) number next lines later here placed = here
onto_placed n (wrong rule) number next lines later here placed = tt

header_placed : (names : List (List ℕ)) (number : ℕ) (lines : List Line) → ArePlaced (length names) (header_from names number lines)
header_placed names number [] = tt
header_placed names number (line ∷ lines) =
    onto_placed (length names) (header_of names line) number (number_after line number) lines (header_from names (number_after line number) lines) (line_place names line)
    (header_placed names (number_after line number) lines)

behind_timely : (n : ℕ) (headed : Headed) → ArePlaced n headed → AreTimely n 0 (scans_behind headed).items
behind_timely n (begins found number lines) placed = subst (λ k. AreTimely k 0 (scans_from found number 0 lines).items) placed (from_timely found number 0 lines)
behind_timely n (fails refusal) placed = tt

-- the items of a trace
pub scans_timely : (text : List ℕ) (net : Network) → AreTimely (input_count net) 0 (scans_of text net).items
scans_timely text net =
    behind_timely (input_count net) (header_in text net)
    (subst (λ n. ArePlaced n (header_in text net)) (length-map net.inputs (λ s. s.name)) (header_placed (input_names net) 1 (trace_lines text)))
