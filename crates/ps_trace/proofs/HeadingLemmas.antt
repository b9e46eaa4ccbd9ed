-- What the lines before a header say.
use Rattle.std.proofs.Common.{◌≡◌, ◌<◌, ◌≤◌, ◌+◌, ◌∙◌, ℕ, List, Err, arith}
use Rattle.ps_lines.specs.Lines as cut
use Rattle.ps_outside.specs.declared.text_fail.TextFail.{TextFail}
use Rattle.ps_outside.specs.declared.text_fail.TextFail.TheVariants.{Memory as NoMemory, Fault as IsFault}
use Rattle.ps_outside.specs.declared.text_fail.TextFail.TheVariants.{Refused as IsRefused}
use Rattle.ps_trace.specs.Scans.{header_from}
use Rattle.ps_trace.specs.Heading.{HeadsBy, IsHeading, SaysBy}
use Rattle.ps_trace.specs.declared.heading.Heading.{Heading}

-- a refusal at a line is that of all lines
pub heads_failing : (names : List (List ℕ)) (number : ℕ) (why : TextFail) (all lines rest other : List cut.Line) → header_from names 1 all ≡ header_from names number lines →
    SaysBy names number (Err why) lines rest → HeadsBy (Err why) (header_from names 1 all) other
heads_failing names number NoMemory all lines rest other same says = tt
heads_failing names number IsFault all lines rest other same says = tt
heads_failing names number (IsRefused refusal) all lines rest other same says = same ∙ says

-- the line after a header that has been read
in_all : (number most begin end : ℕ) → most ≤ begin + 1 → number ≤ most + 1 → begin < end → number ≤ end + 1
in_all number most begin end counted few ahead = omega arith

pub heading_at : (inputs number begin end : ℕ) (heading : Heading) → number ≤ begin + 1 → begin < end → IsHeading inputs (number + 1) heading → IsHeading inputs (end + 1) heading
heading_at inputs number begin end heading counted ahead is = record {
  places = is.places;
  values = is.values;
  number = in_all heading.number number begin end counted is.number ahead;
}
