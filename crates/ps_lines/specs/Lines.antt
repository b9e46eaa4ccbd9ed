-- A text as its list of lines.
use Rattle.std.specs.Prelude.{◌≡◌, ◌+◌, ℕ, List, [], ◌∷◌, length, false, drop, ◌==◌, nat_lt, if◌then◌else◌}
use Rattle.std.specs.List.{list_any}
use Rattle.std.specs.Str.Lines.{strip_carriage_return}

-- a line as it stands in the text: up to a line feed, or up to the text's end
pub data RawLine : Type 0 where
  Ended : List ℕ → RawLine
  Last : List ℕ → RawLine

-- the lines of a text with one byte more in front of it
abbrev pub onto_first : ℕ → List RawLine → List RawLine
onto_first b [] = Last (b ∷ []) ∷ []
onto_first b (Ended line ∷ lines) = Ended (b ∷ line) ∷ lines
onto_first b (Last line ∷ lines) = Last (b ∷ line) ∷ lines

-- the lines of a text: a line feed ends a line, and no line begins at the text's end
abbrev pub raw_lines : List ℕ → List RawLine
raw_lines [] = []
raw_lines (b ∷ bytes) = if b == 10 then Ended [] ∷ raw_lines bytes else onto_first b (raw_lines bytes)

-- a line as it is read: kept, ended by a line feed or by the text's end, or refused, as it is too long
-- or has a byte past the largest text
pub data Line : Type 0 where
  Kept : List ℕ → Line
  KeptLast : List ℕ → Line
  Long : Line
  Large : Line

-- how many bytes of the text a line takes, its line feed among them
abbrev pub bytes_of : RawLine → ℕ
bytes_of (Ended line) = length line + 1
bytes_of (Last line) = length line

-- a line of at most `longest` bytes without its line feed is kept, and a carriage return before the line feed is
-- dropped then
abbrev pub kept_of : ℕ → RawLine → Line
kept_of longest (Ended line) = if nat_lt longest (length line) then Long else Kept (strip_carriage_return line)
kept_of longest (Last line) = if nat_lt longest (length line) then Long else KeptLast line

-- the lines that begin at an offset: one is too large where it has a byte past the `largest` text
abbrev pub lines_from : (largest longest : ℕ) → ℕ → List RawLine → List Line
lines_from largest longest at [] = []
lines_from largest longest at (line ∷ lines) =
    (if nat_lt largest (at + bytes_of line) then Large else kept_of longest line) ∷ lines_from largest longest (at + bytes_of line) lines

-- the lines of a text from an offset on at which a line begins
abbrev pub lines_at : (largest longest : ℕ) → List ℕ → ℕ → List Line
lines_at largest longest text at = lines_from largest longest at (raw_lines (drop at text))

-- there is no line feed among these bytes
abbrev pub HasNoLineFeed : List ℕ → Type 0
HasNoLineFeed bytes = list_any (λ b. b == 10) bytes ≡ false
