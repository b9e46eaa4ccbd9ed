-- What a reader of the lines of a stream holds, and what it gives.
use Rattle.std.specs.Prelude.{◌≡◌, [], ◌∷◌, ◌++◌, ◌-◌, ℕ, List, take, drop}
use Rattle.ps_lines.specs.Lines as cut
use Rattle.ps_lines.specs.Lines.Line.{Kept, KeptLast, Long}
use Rattle.ps_bench_watch.specs.Streams.{stream_lines}
use Rattle.ps_bench_watch.specs.declared.coming.Came.{Came}
use Rattle.ps_bench_watch.specs.declared.coming.Came.TheVariants.{Line, LastLine, TooLong, End}
use Rattle.ps_bench_watch.specs.declared.lines.StreamLines.{StreamLines}

-- the most bytes of a line
abbrev pub longest_of : StreamLines → ℕ
longest_of reader = reader.longest

-- the bytes that it holds: they were read, and no line with them came
abbrev pub held_of : StreamLines → List ℕ
held_of reader = take (reader.upto - reader.from) (drop reader.from reader.bytes.items)

-- the bytes of the line that came last
abbrev pub line_of : StreamLines → List ℕ
line_of reader = take (reader.end - reader.begin) (drop reader.begin reader.bytes.items)

-- the lines that are left, where these bytes are still to come
abbrev pub left : StreamLines → (coming : List ℕ) → List cut.Line
left reader coming = stream_lines reader.longest (held_of reader ++ coming)

-- Of these lines the first came, with these bytes, and the rest is left.
abbrev pub Gives : List cut.Line → Came → List ℕ → List cut.Line → Type 0
Gives lines Line bytes rest = lines ≡ Kept bytes ∷ rest
Gives lines LastLine bytes rest = (lines ≡ KeptLast bytes ∷ []) × (rest ≡ [])
Gives lines TooLong bytes rest = (more : List cut.Line) × (lines ≡ Long ∷ more)
Gives lines End bytes rest = (lines ≡ []) × (rest ≡ [])
