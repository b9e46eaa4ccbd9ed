-- Columns of a line of UTF-8: in bytes, and in UTF-16 code units, which editors count.
use Rattle.std.specs.Prelude.{ℕ, ◌+◌, ◌-◌, ◌<◌, ◌≤◌, ◌==◌, min, nat_lt, if◌then◌else◌, List, length, take}
use Rattle.std.specs.List.{sum_by}
use Rattle.std.specs.Str.{IsCharBoundary}
use Rattle.ps_base.specs.declared.failing.Place.{Place}
use Rattle.ps_text.specs.Quoted.{line_of, before}
use Rattle.ps_text.specs.declared.positions.Position.{Position}

-- How many code units of UTF-16 a byte of UTF-8 brings. The first byte of a character brings those of the character:
-- two where it has four bytes, and else one. A byte that goes on with a character brings none. So each byte has its
-- units, in bytes that are no UTF-8 too.
abbrev pub unit_width : ℕ → ℕ
unit_width byte = if nat_lt byte 128 then 1 else (if nat_lt byte 192 then 0 else (if nat_lt byte 240 then 1 else 2))

-- the code units of these bytes
abbrev pub units : List ℕ → ℕ
units bytes = sum_by unit_width bytes

-- the offset in bytes of a column in code units: the first place between characters with so many units before it, or
-- the end of a line that has fewer
pub record IsOffsetOf (line : List ℕ) (column offset : ℕ) : Type 0 where
  pub within : offset ≤ length line
  pub between : IsCharBoundary line offset
  pub enough : offset < length line → column ≤ units (take offset line)
  pub first : (k : ℕ) → k < offset → IsCharBoundary line k → units (take k line) < column

-- the largest number of a column
abbrev pub last_column : ℕ
last_column = 4294967295

-- the position, counted from 0 in lines and code units, of a place of a text, which counts lines and bytes from 1
abbrev pub position : List ℕ → Place → Position
position text place = record {
  line = place.line - 1;
  character = min (units (before (line_of text place.line) place.column)) last_column;
}

-- the place so many bytes after another one, in the same line
abbrev pub place_behind : Place → (width : ℕ) → Place
place_behind place width = record {
  line = place.line;
  column = min ((if place.column == 0 then 1 else place.column) + width) last_column;
}
