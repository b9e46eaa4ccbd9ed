-- A file that is not too large has the lines of a stream of its bytes.
use Rattle.std.proofs.Common.{◌≡◌, ◌≤◌, ◌+◌, ◌∷◌, [], ℕ, List, Bool, true, false, nat_eq, if◌then◌else◌, length, map, refl, sym, ◌∙◌, ap, arith}
use Rattle.std.proofs.lemmas.Bool.{le-ltb}
use Rattle.ps_base.specs.declared.limits.TheConstants.{LARGEST_TRACE, LONGEST_TRACE_LINE}
use Rattle.ps_lines.specs.Lines.{RawLine, Line, raw_lines, onto_first, bytes_of, kept_of, lines_from}
use Rattle.ps_lines.specs.Lines.RawLine.{Ended, Last}
use Rattle.ps_lines.specs.Lines.Line.{Large}
use Rattle.ps_bench_watch.specs.Streaming.{LinesOfFile}

-- how many bytes these lines take
total : List RawLine → ℕ
total [] = 0
total (line ∷ lines) = bytes_of line + total lines

total_onto : (b : ℕ) (lines : List RawLine) → total (onto_first b lines) ≡ total lines + 1
unfolding total
total_onto b [] = refl
total_onto b (Ended line ∷ lines) = omega arith
total_onto b (Last line ∷ lines) = omega arith

total_either : (feed : Bool) (b : ℕ) (lines : List RawLine) → total (if feed then Ended [] ∷ lines else onto_first b lines) ≡ total lines + 1
unfolding total
total_either true b lines = omega arith
total_either false b lines = total_onto b lines

total_raw : (text : List ℕ) → total (raw_lines text) ≡ length text
unfolding total
total_raw [] = refl
total_raw (b ∷ bytes) =
    let here = total_either (nat_eq b 10) b (raw_lines bytes) in
    let rest = total_raw bytes in
    omega (arith, here, rest)

-- lines of which none has a byte past the largest text
none_large : (largest longest at : ℕ) (lines : List RawLine) → at + total lines ≤ largest → lines_from largest longest at lines ≡ map (kept_of longest) lines
unfolding total
none_large largest longest at [] within = refl
none_large largest longest at (line ∷ lines) within =
    let near : at + bytes_of line ≤ largest = omega (arith, within) in
    let rest : at + bytes_of line + total lines ≤ largest = omega (arith, within) in
    ap (λ (b : Bool). (if b then Large else kept_of longest line) ∷ lines_from largest longest (at + bytes_of line) lines) (le-ltb largest (at + bytes_of line) near)
    ∙ ap (λ (r : List Line). kept_of longest line ∷ r) (none_large largest longest (at + bytes_of line) lines rest)

pub lines_of_file : LinesOfFile
lines_of_file bytes small =
    let size = total_raw bytes in
    sym (none_large LARGEST_TRACE LONGEST_TRACE_LINE 0 (raw_lines bytes) (omega (arith, size, small)))
