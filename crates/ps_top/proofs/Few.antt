-- A trace has no more items than bytes.
use Rattle.std.proofs.Common.{◌≤◌, ◌+◌, ℕ, suc, Bool, true, false, cond, List, [], ◌∷◌, length, arith}
use Rattle.std.specs.Prelude.{◌==◌, drop}
use Rattle.ps_lines.specs.Lines.{Line, RawLine, raw_lines, onto_first, bytes_of, lines_from}
use Rattle.ps_lines.specs.Lines.RawLine.{Ended, Last}
use Rattle.ps_model.specs.Network.{Network}
use Rattle.ps_trace.specs.Header.{Header, input_names}
use Rattle.ps_trace.specs.Header.Header.{no_header, places, wrong}
use Rattle.ps_trace.specs.Trace.{Said}
use Rattle.ps_trace.specs.Trace.Said.{skips, restarts, scans, breaks}
use Rattle.ps_trace.specs.Scans.{Scans, Headed, said_of, last_after, number_after, onto_scans, scans_from, header_of, onto_headed, header_from, scans_behind, scans_of, trace_lines}
use Rattle.ps_base.specs.declared.limits.TheConstants.{LARGEST_TRACE, LONGEST_TRACE_LINE}

onto_few : (b n : ℕ) (lines : List RawLine) → length lines ≤ n → length (onto_first b lines) ≤ suc n
onto_few b n [] few = omega arith
onto_few b n (Ended line ∷ lines) few = omega (arith, few)
onto_few b n (Last line ∷ lines) few = omega (arith, few)

raw_few : (text : List ℕ) → length (raw_lines text) ≤ length text
raw_few [] = omega arith
raw_few (b ∷ text) = either (b == 10) (raw_few text)
  where
    either : (feeds : Bool) → length (raw_lines text) ≤ length text → length (cond feeds (Ended [] ∷ raw_lines text) (onto_first b (raw_lines text))) ≤ suc (length text)
    either true few = omega (arith, few)
    either false few = onto_few b (length text) (raw_lines text) few

lines_few : (largest longest at : ℕ) (lines : List RawLine) → length (lines_from largest longest at lines) ≤ length lines
lines_few largest longest at [] = omega arith
lines_few largest longest at (line ∷ lines) = omega (arith, lines_few largest longest (at + bytes_of line) lines)

onto_scans_few : (found : List ℕ) (said : Said) (number n : ℕ) (later : Scans) → length later.items ≤ n → length (onto_scans found said number later).items ≤ suc n
onto_scans_few found skips number n later few = omega (arith, few)
onto_scans_few found restarts number n later few = omega (arith, few)
onto_scans_few found (scans now values) number n later few = omega (arith, few)
onto_scans_few found (breaks rule) number n later few = omega arith

scans_few : (found : List ℕ) (number last : ℕ) (lines : List Line) → length (scans_from found number last lines).items ≤ length lines
scans_few found number last [] = omega arith
scans_few found number last (line ∷ lines) =
    let said = said_of (length found) last line in
    onto_scans_few found said number (length lines) (scans_from found (number_after line number) (last_after said last) lines)
    (scans_few found (number_after line number) (last_after said last) lines)

-- the scans after a header are no more than these
abbrev AreFew : ℕ → Headed → Type 0
AreFew n headed = length (scans_behind headed).items ≤ n

onto_headed_few : (header : Header) (number next : ℕ) (lines : List Line) (later : Headed) → AreFew (length lines) later → AreFew (suc (length lines)) (onto_headed header number next lines later)
onto_headed_few no_header number next lines later few = omega (arith, few)
onto_headed_few (places found) number next lines later few = omega (arith, scans_few found next 0 lines)
onto_headed_few (wrong rule) number next lines later few = omega arith

headed_few : (names : List (List ℕ)) (number : ℕ) (lines : List Line) → AreFew (length lines) (header_from names number lines)
headed_few names number [] = omega arith
headed_few names number (line ∷ lines) =
    onto_headed_few (header_of names line) number (number_after line number) lines (header_from names (number_after line number) lines) (headed_few names (number_after line number) lines)

pub items_few : (text : List ℕ) (net : Network) → length (scans_of text net).items ≤ length text
items_few text net =
    omega (arith, headed_few (input_names net) 1 (trace_lines text), lines_few LARGEST_TRACE LONGEST_TRACE_LINE 0 (raw_lines (drop 0 text)), raw_few (drop 0 text))
