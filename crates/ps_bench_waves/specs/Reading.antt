-- What a reader gives of the value changes of a dump, by IEEE 1364 and GTKWave's string variables.
use Rattle.std.specs.Prelude.{ℕ, zero, suc, ◌==◌, nat_le, Bool, true, false, if◌then◌else◌, List, [], ◌∷◌, Option, Some}
use Rattle.std.specs.Prelude.{None, map, length}
use Rattle.std.specs.Str.{bytes_eq}
use Rattle.std.specs.Str.Parse.{digits_value}
use Rattle.ps_bench_waves.specs.Values.{Held}
use Rattle.ps_bench_waves.specs.Values.Held.{bit, vector, words}

-- ---- Tokens.

-- white space separates tokens: blanks, tabs, line feeds and what else does not print
abbrev pub is_white : ℕ → Bool
is_white b = nat_le b 32

-- a byte in front of a token that follows at once
abbrev pub onto_token : ℕ → List (List ℕ) → List (List ℕ)
onto_token b [] = (b ∷ []) ∷ []
onto_token b (token ∷ tokens) = (b ∷ token) ∷ tokens

-- a byte that is no white space, in front of these bytes with these tokens
abbrev pub before_tokens : ℕ → List ℕ → List (List ℕ) → List (List ℕ)
before_tokens b [] tokens = (b ∷ []) ∷ tokens
before_tokens b (c ∷ bytes) tokens = if is_white c then (b ∷ []) ∷ tokens else onto_token b tokens

-- the tokens of a text
abbrev pub tokens : List ℕ → List (List ℕ)
tokens [] = []
tokens (b ∷ bytes) = if is_white b then tokens bytes else before_tokens b bytes (tokens bytes)

-- ---- Events.

-- what stands in the dump: a time; a wire, by its identifier, has this; or something that no dump has
pub data Event : Type 0 where
  time : ℕ → Event
  change : (wire : List ℕ) → Held → Event
  strange : Event

-- the bytes of words: a backslash stands with the three bytes after it for a blank
abbrev pub words_from : (passed : ℕ) → List ℕ → List ℕ
words_from passed [] = []
words_from (suc passed) (b ∷ bytes) = words_from passed bytes
words_from zero (b ∷ bytes) = if b == 92 then 32 ∷ words_from 3 bytes else b ∷ words_from zero bytes

-- What a token is, by its first byte: a time; a bit with its identifier; a value, whose identifier is the next token; a
-- word as `$dumpvars` and `$end`, which says nothing; or none of these.
pub data Sort : Type 0 where
  of_time : ℕ → Sort
  of_bit : Bool → (wire : List ℕ) → Sort
  of_value : Held → Sort
  of_word : Sort
  of_nothing : Sort

-- the sort of a token
abbrev pub sort_of : List ℕ → Sort
sort_of [] = of_nothing
sort_of (b ∷ bytes) =
    if b == 35 then of_time (digits_value 10 bytes)
    else if b == 48 then of_bit false bytes
    else if b == 49 then of_bit true bytes
    else if b == 98 then of_value (vector (length bytes) (digits_value 2 bytes))
    else if b == 115 then of_value (words (words_from 0 bytes))
    else if b == 36 then of_word
    else of_nothing

-- the events of tokens, after a value whose identifier is the first of them, if there is one
abbrev pub onto_events : Sort → (later : Option Held → List Event) → List Event
onto_events (of_time now) later = time now ∷ later None
onto_events (of_bit value wire) later = change wire (bit value) ∷ later None
onto_events (of_value value) later = later (Some value)
onto_events of_word later = later None
onto_events of_nothing later = strange ∷ later None

-- the events of tokens, where a value may have come whose identifier has not
abbrev pub events_from : List (List ℕ) → Option Held → List Event
events_from [] None = []
events_from [] (Some value) = strange ∷ []
events_from (token ∷ tokens) None = onto_events (sort_of token) (events_from tokens)
events_from (token ∷ tokens) (Some value) = change token value ∷ events_from tokens None

-- the events of a text
abbrev pub events : List ℕ → List Event
events text = events_from (tokens text) None

-- ---- Scans.

-- what is known of each wire, by its identifier
abbrev pub Known : Type 0
Known = List ℕ → Option Held

-- nothing is known
abbrev pub unknown : Known
unknown wire = None

-- a wire has this from now on
abbrev pub with_change : (wire : List ℕ) → Held → Known → Known
with_change wire value known other = if bytes_eq other wire then Some value else known other

-- a scan that was read: its time, and what is known of each wire that is asked for
pub record Seen : Type 0 where
  pub now : ℕ
  pub values : List (Option Held)

-- the scans of these events, where one at this time was begun and this is known: a scan lasts up to the next time
abbrev pub scans_from : (wires : List (List ℕ)) → (now : ℕ) → Known → List Event → List Seen
scans_from wires now known [] = record { now = now; values = map known wires } ∷ []
scans_from wires now known (time later ∷ events) =
    record { now = now; values = map known wires } ∷ scans_from wires later known events
scans_from wires now known (change wire value ∷ events) = scans_from wires now (with_change wire value known) events
scans_from wires now known (strange ∷ events) = []

-- the scans of events: the first of them is a time
abbrev pub scans_in : (wires : List (List ℕ)) → List Event → List Seen
scans_in wires [] = []
scans_in wires (time now ∷ events) = scans_from wires now unknown events
scans_in wires (change wire value ∷ events) = []
scans_in wires (strange ∷ events) = []

-- the scans that a text has of the wires with these identifiers
abbrev pub scans_read : (wires : List (List ℕ)) → (text : List ℕ) → List Seen
scans_read wires text = scans_in wires (events text)
