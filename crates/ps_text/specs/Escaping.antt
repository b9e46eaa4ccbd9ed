-- How a value is written in a page: a byte that could begin or end something else stands as a number (a numeric
-- character reference of HTML).
use Rattle.std.specs.Prelude.{ℕ, ◌==◌, ◌+◌, ◌/◌, ◌%◌, Bool, not, ◌&&◌, ◌||◌, List, [], ◌∷◌, ◌++◌, nat_lt}
use Rattle.std.specs.Prelude.{codes, if◌then◌else◌}
use Rattle.std.specs.List.{flat_map}

-- a byte that has a meaning of its own in a page: `"`, `&`, `'`, `<` or `>`
abbrev pub is_mark : ℕ → Bool
is_mark b = b == 34 || b == 38 || b == 39 || b == 60 || b == 62

-- a control byte other than a tab or a line feed
abbrev pub is_control : ℕ → Bool
is_control b = (nat_lt b 32 && not (b == 9) && not (b == 10)) || b == 127

-- a byte of a value that stands for itself
abbrev pub is_plain : ℕ → Bool
is_plain b = not (is_mark b) && not (is_control b)

-- the small hexadecimal digit of a number up to 15
abbrev pub hex_digit : ℕ → ℕ
hex_digit n = if nat_lt n 10 then n + 48 else n + 87

-- a byte by its number, as `&#x3c;`
abbrev pub reference : ℕ → List ℕ
reference b = 38 ∷ 35 ∷ 120 ∷ hex_digit (b / 16) ∷ hex_digit (b % 16) ∷ 59 ∷ []

-- a byte of a value
abbrev pub escaped_byte : ℕ → List ℕ
escaped_byte b = if is_plain b then b ∷ [] else reference b

-- a value
abbrev pub escaped : List ℕ → List ℕ
escaped value = flat_map escaped_byte value

-- an attribute with its value, as ` class="pass"`
abbrev pub attribute_text : (name value : List ℕ) → List ℕ
attribute_text name value = codes " " ++ name ++ codes "=\"" ++ escaped value ++ codes "\""

-- a byte that stands for itself, or the `&` of an escape
abbrev pub is_quiet : ℕ → Bool
is_quiet b = is_plain b || b == 38
