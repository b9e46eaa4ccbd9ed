-- Apparatus: what the reader of a header has found.
use Rattle.std.specs.Prelude.{◌≡◌, ◌≤◌, ◌+◌, ℕ, List, Result, Ok, Err, vec_len}
use Rattle.ps_lines.specs.Lines as cut
use Rattle.ps_outside.specs.declared.text_fail.TextFail.{TextFail}
use Rattle.ps_outside.specs.declared.text_fail.TextFail.TheVariants.{Memory as NoMemory, Fault as IsFault}
use Rattle.ps_outside.specs.declared.text_fail.TextFail.TheVariants.{Refused as IsRefused}
use Rattle.ps_trace.specs.Scans.{Headed, header_from}
use Rattle.ps_trace.specs.Scans.Headed.{begins, fails}
use Rattle.ps_trace.specs.declared.heading.Heading.{Heading}
use Rattle.ps_trace.specs.declared.heading.Told.{Told}
use Rattle.ps_trace.specs.declared.heading.Told.TheVariants.{Skipped, Header}

-- a header of so many inputs has a place and a value for each, and the line after it is at most the one with this number
pub record IsHeading (inputs most : ℕ) (heading : Heading) : Type 0 where
  pub places : vec_len heading.places ≡ inputs
  pub values : vec_len heading.values ≡ inputs
  pub number : heading.number ≤ most

-- the same of what a line with this number is
abbrev pub IsTold : (inputs number : ℕ) → Told → Type 0
IsTold inputs number (Skipped next) = next ≤ number + 1
IsTold inputs number (Header heading) = IsHeading inputs (number + 1) heading

-- an answer at a line says what the lines say, of which the rest is left
abbrev pub SaysBy : (names : List (List ℕ)) (number : ℕ) → Result Told TextFail → (lines rest : List cut.Line) → Type 0
SaysBy names number (Ok (Skipped next)) lines rest = header_from names number lines ≡ header_from names next rest
SaysBy names number (Ok (Header heading)) lines rest = header_from names number lines ≡ begins heading.places.items heading.number rest
SaysBy names number (Err NoMemory) lines rest = Unit {0}
SaysBy names number (Err IsFault) lines rest = Unit {0}
SaysBy names number (Err (IsRefused refusal)) lines rest = header_from names number lines ≡ fails refusal

-- an answer is the header of the lines, of which the rest is left, or its refusal
abbrev pub HeadsBy : Result Heading TextFail → Headed → (rest : List cut.Line) → Type 0
HeadsBy (Ok heading) headed rest = headed ≡ begins heading.places.items heading.number rest
HeadsBy (Err NoMemory) headed rest = Unit {0}
HeadsBy (Err IsFault) headed rest = Unit {0}
HeadsBy (Err (IsRefused refusal)) headed rest = headed ≡ fails refusal
