-- The scans and restarts of a trace.
use Rattle.std.specs.Prelude.{◌≡◌, ◌<◌, ℕ, List, [], ◌∷◌, ◌+◌, Bool, false, map, length, slice_index, slice_index_or}
use Rattle.ps_base.specs.declared.failing.Rule.{Rule}
use Rattle.ps_base.specs.declared.failing.Rule.TheVariants.{T1, T8, T9}
use Rattle.ps_base.specs.declared.failing.Refusal.{Refusal}
use Rattle.ps_base.specs.declared.limits.TheConstants.{LARGEST_TRACE, LONGEST_TRACE_LINE}
use Rattle.ps_lines.specs.Lines.{Line, lines_at}
use Rattle.ps_lines.specs.Lines.Line.{Kept, KeptLast, Long, Large}
use Rattle.ps_model.specs.Meaning.{Item}
use Rattle.ps_model.specs.Meaning.Item.{scan, restart}
use Rattle.ps_model.specs.Network.{Network}
use Rattle.ps_trace.specs.Words.{fields}
use Rattle.ps_trace.specs.Trace.{Said, line_said}
use Rattle.ps_trace.specs.Trace.Said.{skips, restarts, scans, breaks}
use Rattle.ps_trace.specs.Header.{Header, header_said, input_names}
use Rattle.ps_trace.specs.Header.Header.{no_header, places, wrong}

-- how a trace ends: whole, or at its first refused line
pub data End : Type 0 where
  whole : End
  refused : Refusal → End

-- the scans and restarts of a trace up to its end or its first refused line
pub record Scans : Type 0 where
  pub items : List Item
  pub end : End

-- a refusal by a rule at a line
abbrev pub at_line : Rule → ℕ → Refusal
at_line rule number = record { rule = rule; place = record { line = number; column = 0 } }

-- the number of the line after one: a line's number is one more than the line feeds before it
abbrev pub number_after : Line → ℕ → ℕ
number_after (Kept line) number = number + 1
number_after _ number = number

-- what a line after the header says
abbrev pub said_of : (names last : ℕ) → Line → Said
said_of names last (Kept line) = line_said names last (fields line)
said_of names last (KeptLast line) = line_said names last (fields line)
said_of names last Long = breaks T8
said_of names last Large = breaks T9

-- the time of the last scan, after a line
abbrev pub last_after : Said → ℕ → ℕ
last_after (scans now values) last = now
last_after _ last = last

-- each input's value: the one that stands at the input's place
abbrev pub inputs_of : List ℕ → List Bool → List Bool
inputs_of found values = map (λ place. slice_index_or values place false) found

-- each input's value stands at the input's number
abbrev pub IsInOrder : List ℕ → Type 0
IsInOrder found = (i : ℕ) → i < length found → slice_index found i ≡ i

-- what a line with this number says, in front of what the later lines give
abbrev pub onto_scans : List ℕ → Said → ℕ → Scans → Scans
onto_scans found skips number later = later
onto_scans found restarts number later = record { items = restart ∷ later.items; end = later.end }
onto_scans found (scans now values) number later = record { items = scan now (inputs_of found values) ∷ later.items; end = later.end }
onto_scans found (breaks rule) number later = record { items = []; end = refused (at_line rule number) }

-- the scans and restarts of the lines after the header
abbrev pub scans_from : List ℕ → (number last : ℕ) → List Line → Scans
scans_from found number last [] = record { items = []; end = whole }
scans_from found number last (line ∷ lines) =
    onto_scans found (said_of (length found) last line) number
    (scans_from found (number_after line number) (last_after (said_of (length found) last line) last) lines)

-- Where a trace's header ends: the places of the inputs' values, with the lines after it and the number of the first;
-- or the refusal.
pub data Headed : Type 0 where
  begins : List ℕ → ℕ → List Line → Headed
  fails : Refusal → Headed

-- what a line says as a header
abbrev pub header_of : List (List ℕ) → Line → Header
header_of names (Kept line) = header_said names (fields line)
header_of names (KeptLast line) = header_said names (fields line)
header_of names Long = wrong T8
header_of names Large = wrong T9

-- what a line with this number says as a header, in front of the later lines
abbrev pub onto_headed : Header → (number next : ℕ) → List Line → Headed → Headed
onto_headed no_header number next lines later = later
onto_headed (places found) number next lines later = begins found next lines
onto_headed (wrong rule) number next lines later = fails (at_line rule number)

-- the header is the first line that isn't skipped
abbrev pub header_from : List (List ℕ) → ℕ → List Line → Headed
header_from names number [] = fails (at_line T1 number)
header_from names number (line ∷ lines) =
    onto_headed (header_of names line) number (number_after line number) lines (header_from names (number_after line number) lines)

-- the scans and restarts after a header
abbrev pub scans_behind : Headed → Scans
scans_behind (begins found number lines) = scans_from found number 0 lines
scans_behind (fails refusal) = record { items = []; end = refused refusal }

-- the lines of a trace
abbrev pub trace_lines : List ℕ → List Line
trace_lines text = lines_at LARGEST_TRACE LONGEST_TRACE_LINE text 0

-- the header of a trace of an application
abbrev pub header_in : List ℕ → Network → Headed
header_in text net = header_from (input_names net) 1 (trace_lines text)

-- the items that a trace gives for an application, and its first refusal or "whole"
abbrev pub scans_of : List ℕ → Network → Scans
scans_of text net = scans_behind (header_in text net)
