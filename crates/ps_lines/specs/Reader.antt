-- What a reader of lines has read of a text.
use Rattle.std.specs.Prelude.{◌≡◌, [], ◌∷◌, ◌<◌, ◌≤◌, ◌-◌, ℕ, List, take, drop, length, string_bytes, if◌then◌else◌}
use Rattle.ps_lines.specs.Lines.{lines_at, HasNoLineFeed}
use Rattle.ps_lines.specs.Lines as cut
use Rattle.ps_lines.specs.Lines.Line.{Kept, KeptLast, Long, Large}
use Rattle.ps_lines.specs.declared.reader.Got.{Got}
use Rattle.ps_lines.specs.declared.reader.Got.TheVariants.{Line, LastLine, TooLong, TooLarge, End}
use Rattle.ps_lines.specs.declared.reader.Limits.{Limits}
use Rattle.ps_lines.specs.declared.reader.LineReader.{LineReader}

-- Of the text `read` bytes were read, the last of which are held and not yet looked at. Before these stand
-- `count` bytes of the line, kept in `line` if it isn't too long.
pub record Follows (longest : ℕ) (text : List ℕ) (read : ℕ) (held : List ℕ) (count : ℕ) (line : List ℕ) : Type 0 where
  pub within : read ≤ length text
  pub piece : held ≡ take (length held) (drop (read - length held) text)
  pub kept : count ≤ longest → take count line ≡ take count (drop (read - length held - count) text)
  pub one_line : HasNoLineFeed (take count (drop (read - length held - count) text))

-- the name of the reader's file
abbrev pub name_of : LineReader → List ℕ
name_of reader = string_bytes reader.name

-- the limits that it keeps
abbrev pub limits_of : LineReader → Limits
limits_of reader = reader.limits

-- how many bytes of the file it read
abbrev pub read_of : LineReader → ℕ
read_of reader = reader.at

-- the bytes that it holds and has not yet looked at
abbrev pub held_of : LineReader → List ℕ
held_of reader = take (reader.upto - reader.from) (drop reader.from reader.piece.items)

-- the offset at which its line begins
abbrev pub begin_of : LineReader → ℕ
begin_of reader = reader.at - length (held_of reader) - reader.count

-- it reads this text
abbrev pub IsReading : LineReader → List ℕ → Type 0
IsReading reader text = Follows reader.limits.longest text reader.at (held_of reader) reader.count reader.line.items

-- the lines of the text that are left, the one that it is in among them
abbrev pub left : LineReader → List ℕ → List cut.Line
left reader text = lines_at reader.limits.largest reader.limits.longest text (begin_of reader)

-- the lines of a whole text
abbrev pub all_lines : Limits → List ℕ → List cut.Line
all_lines limits text = lines_at limits.largest limits.longest text 0

-- the bytes of the line that came last
abbrev pub line_of : LineReader → List ℕ
line_of reader = if reader.in_piece then take (reader.end - reader.begin) (drop reader.begin reader.piece.items) else take reader.end reader.line.items

-- Of these lines the first came, with these bytes, and the rest is left. A text that is too large stays so.
abbrev pub Gives : List cut.Line → Got → List ℕ → List cut.Line → Type 0
Gives lines Line bytes rest = lines ≡ Kept bytes ∷ rest
Gives lines LastLine bytes rest = lines ≡ KeptLast bytes ∷ rest
Gives lines TooLong bytes rest = lines ≡ Long ∷ rest
Gives lines TooLarge bytes rest = (rest ≡ lines) × (more : List cut.Line) × (lines ≡ Large ∷ more)
Gives lines End bytes rest = (lines ≡ []) × (rest ≡ [])

-- after a line the reader is past it, and else it stays
abbrev pub GoesOn : Got → LineReader → LineReader → Type 0
GoesOn Line old new = begin_of old < begin_of new
GoesOn LastLine old new = begin_of old < begin_of new
GoesOn TooLong old new = begin_of old < begin_of new
GoesOn TooLarge old new = begin_of new ≡ begin_of old
GoesOn End old new = begin_of new ≡ begin_of old

-- nothing was read so far
pub record IsFresh (chosen : Limits) (reader : LineReader) : Type 0 where
  pub limits : reader.limits ≡ chosen
  pub nothing : reader.at ≡ 0
  pub reads : (text : List ℕ) → IsReading reader text
  pub all_left : (text : List ℕ) → left reader text ≡ all_lines chosen text
