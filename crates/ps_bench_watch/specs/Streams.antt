-- A stream of bytes as its list of lines.
use Rattle.std.specs.Prelude.{ℕ, List, map}
use Rattle.ps_lines.specs.Lines.{Line, raw_lines, kept_of}

-- the lines of a stream: those of a text, however much of it there is
abbrev pub stream_lines : (longest : ℕ) → List ℕ → List Line
stream_lines longest bytes = map (kept_of longest) (raw_lines bytes)
