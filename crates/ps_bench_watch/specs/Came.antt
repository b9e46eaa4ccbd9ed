-- What a reader of the lines of a stream says of a trace's line.
use Rattle.std.specs.Prelude.{[], ℕ, Bool, true, false, List}
use Rattle.ps_base.specs.declared.failing.Rule.TheVariants.{T1, T8}
use Rattle.ps_lines.specs.Lines as cut
use Rattle.ps_lines.specs.Lines.Line.{Kept, KeptLast, Long}
use Rattle.ps_bench_watch.specs.declared.coming.Came.{Came}
use Rattle.ps_bench_watch.specs.declared.coming.Came.TheVariants.{Line, LastLine, TooLong, End}
use Rattle.ps_trace.specs.Header.{Header, header_said}
use Rattle.ps_trace.specs.Header.Header.{wrong}
use Rattle.ps_trace.specs.Words.{fields}

-- the line that came, with these bytes
abbrev pub line_came : Came → List ℕ → cut.Line
line_came Line bytes = Kept bytes
line_came LastLine bytes = KeptLast bytes
line_came TooLong bytes = Long
line_came End bytes = KeptLast []

-- a line came that is kept
abbrev pub IsLine : Came → Type 0
IsLine Line = Unit {0}
IsLine LastLine = Unit {0}
IsLine TooLong = ⊥
IsLine End = ⊥

-- whether the line is the last one
abbrev pub is_last : Came → Bool
is_last LastLine = true
is_last _ = false

-- what came says as a header: there is none where the stream ends
abbrev pub header_came : List (List ℕ) → Came → List ℕ → Header
header_came names Line bytes = header_said names (fields bytes)
header_came names LastLine bytes = header_said names (fields bytes)
header_came names TooLong bytes = wrong T8
header_came names End bytes = wrong T1
