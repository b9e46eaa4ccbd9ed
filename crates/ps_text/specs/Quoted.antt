-- The line of a text that a refusal is about, and what of it is quoted.
use Rattle.std.specs.Prelude.{ℕ, Bool, not, ◌==◌, ◌||◌, List, [], ◌++◌, ◌-◌, codes, length, take, drop, replicate}
use Rattle.std.specs.Prelude.{slice_index_or, if◌then◌else◌}
use Rattle.std.specs.List.{slice_split, before_first}
use Rattle.std.specs.Char.{is_ascii_alphanumeric}
use Rattle.ps_base.specs.declared.limits.TheConstants.{LONGEST_NAME}
use Rattle.ps_text.specs.Shown.{first_shown, last_shown}

-- line n of a text, counted from 1: what stands between two line feeds, and nothing where there is no such line
abbrev pub line_of : List ℕ → ℕ → List ℕ
line_of text n = slice_index_or (slice_split (λ b. b == 10) text) (n - 1) []

-- what of a line stands before a column, counted from 1
abbrev pub before : List ℕ → ℕ → List ℕ
before line column = take (column - 1) line

-- what of a line stands from a column on
abbrev pub behind : List ℕ → ℕ → List ℕ
behind line column = drop (column - 1) line

-- a letter, a digit or `_`
abbrev pub is_of_name : ℕ → Bool
is_of_name b = is_ascii_alphanumeric b || b == 95

-- the name at the beginning of bytes, or as much of it as a name may have
abbrev pub name_at : List ℕ → List ℕ
name_at bytes = take LONGEST_NAME (before_first (λ b. not (is_of_name b)) bytes)

-- the window on a line: up to 40 bytes before the place, and up to 60 from the place on
abbrev pub window : (front back : List ℕ) → List ℕ
window front back = codes "    " ++ last_shown 40 front ++ first_shown 60 back ++ codes "\n"

-- a caret below the first byte of the place: as many spaces as the window shows bytes before it
abbrev pub caret : (front : List ℕ) → List ℕ
caret front = codes "    " ++ replicate (length (last_shown 40 front)) 32 ++ codes "^\n"

-- the window on a line at a column, and the caret; column 0 is the line alone, and a line without bytes is not quoted
abbrev pub quoted : (line : List ℕ) (column : ℕ) → List ℕ
quoted line column =
    if length line == 0 then [] else window (before line column) (behind line column) ++ (if column == 0 then [] else caret (before line column))
