-- Pieces of what is told.
use Rattle.std.specs.Prelude.{ℕ, Bool, not, ◌==◌, ◌&&◌, ◌||◌, ◌/◌, ◌%◌, List, [], ◌∷◌, ◌++◌, codes, decimal}
use Rattle.std.specs.Prelude.{encode_utf8, if◌then◌else◌}
use Rattle.std.specs.Char.{is_control}
use Rattle.std.specs.List.{flat_map}
use Rattle.std.specs.Str.{chars}
use Rattle.ps_text.specs.Escaping.{hex_digit}

-- the end of a noun: one of it, or several
abbrev pub plural : ℕ → List ℕ
plural count = if count == 1 then [] else codes "s"

-- a count with what is counted, as `1 scan` or `2 scans`
abbrev pub count_text : ℕ → (noun : List ℕ) → List ℕ
count_text count noun = decimal count ++ codes " " ++ noun ++ plural count

-- a character at which a reader of lines may end a line, and that is no control character: U+2028 or U+2029
abbrev pub ends_line : ℕ → Bool
ends_line c = c == 0x2028 || c == 0x2029

-- a code that is no character, and that XML cannot hold: U+FFFE or U+FFFF
abbrev pub is_no_character : ℕ → Bool
is_no_character c = c == 0xFFFE || c == 0xFFFF

-- a character that may stand in a line that is told
abbrev pub is_of_line : ℕ → Bool
is_of_line c = not (is_control c) && not (ends_line c) && not (is_no_character c)

-- a byte by its two hexadecimal digits, as `\x0a`
abbrev pub coded : ℕ → List ℕ
coded b = 92 ∷ 120 ∷ hex_digit (b / 16) ∷ hex_digit (b % 16) ∷ []

-- A character of a name: a backslash stands twice, and a character that may not stand in a line stands as its bytes by
-- their digits.
abbrev pub shown_char : ℕ → List ℕ
shown_char c =
    if c == 92 then codes "\\\\" else if is_of_line c then encode_utf8 c else flat_map coded (encode_utf8 c)

-- a name from outside, as it stands in a line
abbrev pub shown : List ℕ → List ℕ
shown name = flat_map shown_char (chars name)

-- a file and a line of it, as `press.cases:7`
abbrev pub place_text : (file : List ℕ) → (line : ℕ) → List ℕ
place_text file line = shown file ++ codes ":" ++ decimal line
