-- What a reader of a trace has read, and what is left.
use Rattle.std.specs.Prelude.{◌≡◌, ◌<◌, ◌≤◌, ℕ, List, [], ◌∷◌, Option, Some, None, Result, Ok, Err, length}
use Rattle.ps_base.specs.declared.failing.Refusal.{Refusal}
use Rattle.ps_base.specs.declared.limits.TheConstants.{LARGEST_TRACE}
use Rattle.ps_lines.specs.Reader.{IsReading, left, begin_of, name_of}
use Rattle.ps_model.specs.Meaning.{Item}
use Rattle.ps_model.specs.Meaning.Item.{scan, restart}
use Rattle.ps_model.specs.declared.report.Scan.{Scan}
use Rattle.ps_trace.specs.Scans.{Scans, Headed, scans_from}
use Rattle.ps_trace.specs.Scans.End.{whole, refused}
use Rattle.ps_trace.specs.Scans.Headed.{begins, fails}
use Rattle.ps_trace.specs.declared.trace.TraceReader.{TraceReader}
use Rattle.ps_outside.specs.declared.text_fail.TextFail.{TextFail}
use Rattle.ps_outside.specs.declared.text_fail.TextFail.TheVariants.{Memory as NoMemory, Fault as IsFault}
use Rattle.ps_outside.specs.declared.text_fail.TextFail.TheVariants.{Refused as IsRefused}
use Rattle.ps_trace.specs.declared.trace.Next.{Next}
use Rattle.ps_trace.specs.declared.trace.Next.TheVariants.{Scan as NextScan, Restart as NextRestart, End as NextEnd}

-- the name of the reader's file
abbrev pub file_of : TraceReader → List ℕ
file_of reader = name_of reader.lines

-- how many inputs a scan has
abbrev pub input_count_of : TraceReader → ℕ
input_count_of reader = length reader.places.items

-- the time of the last scan that was read, and 0 before the first
abbrev pub last_of : TraceReader → ℕ
last_of reader = reader.last

-- the refusal that the reader met, if it met one
abbrev pub refusal_of : TraceReader → Option Refusal
refusal_of reader = reader.refusal

-- it reads this text
abbrev pub IsReadingTrace : TraceReader → List ℕ → Type 0
IsReadingTrace reader text = IsReading reader.lines text

-- no item, and a refusal
abbrev pub only_refused : Refusal → Scans
only_refused refusal = record { items = []; end = refused refusal }

-- what is left after a refusal, if there is one, or else these items
abbrev pub unless_refused : Option Refusal → Scans → Scans
unless_refused (Some refusal) items = only_refused refusal
unless_refused None items = items

-- the items of the text that are left, and how it ends
abbrev pub items_left : TraceReader → List ℕ → Scans
items_left reader text =
    unless_refused reader.refusal (scans_from reader.places.items reader.number reader.last (left reader.lines text))

-- these items begin with this one, and the rest is left
abbrev pub Begins : Scans → Item → Scans → Type 0
Begins items item rest = items ≡ record { items = item ∷ rest.items; end = rest.end }

-- of these items the next one came, and the rest is left
abbrev pub Comes : Scans → Next → Scan → Scans → Type 0
Comes items NextScan into rest = Begins items (scan into.now into.ins) rest
Comes items NextRestart into rest = Begins items restart rest
Comes items NextEnd into rest = (items ≡ record { items = []; end = whole }) × (rest ≡ items)

-- with a scan its inputs are as many as before, and its time is not less than the last; with anything else nothing
-- changes
abbrev pub Fills : Next → TraceReader → TraceReader → Scan → Scan → Type 0
Fills NextScan old new before after = (length after.ins ≡ length before.ins) × (last_of old ≤ after.now) × (last_of new ≡ after.now)
Fills NextRestart old new before after = (after ≡ before) × (last_of new ≡ last_of old)
Fills NextEnd old new before after = (after ≡ before) × (last_of new ≡ last_of old)

-- where the reader's next line begins in its text
abbrev pub place_of : TraceReader → ℕ
place_of reader = begin_of reader.lines

-- an item takes the reader on, and within the largest trace
abbrev pub GoesOn : Next → TraceReader → TraceReader → Type 0
GoesOn NextScan old new = (place_of old < place_of new) × (place_of new ≤ LARGEST_TRACE)
GoesOn NextRestart old new = (place_of old < place_of new) × (place_of new ≤ LARGEST_TRACE)
GoesOn NextEnd old new = Unit {0}

-- the header stands, or this refusal stands in its place
abbrev pub IsHeaded : Headed → Type 0
IsHeaded (begins places number lines) = Unit {0}
IsHeaded (fails refusal) = ⊥

-- the trace was read: an answer that neither a failed read nor running out of memory gives
abbrev pub IsRead : {A : Type 0} → Result A TextFail → Type 0
IsRead (Ok value) = Unit {0}
IsRead (Err NoMemory) = ⊥
IsRead (Err IsFault) = ⊥
IsRead (Err (IsRefused refusal)) = Unit {0}
