-- How bytes that a user wrote are shown, so that a terminal takes no harm.
use Rattle.std.specs.Prelude.{ℕ, Bool, ◌==◌, ◌||◌, List, [], ◌∷◌, ◌++◌, ◌-◌, codes, length, take, drop, nat_lt}
use Rattle.std.specs.Prelude.{if◌then◌else◌}
use Rattle.std.specs.List.{flat_map}
use Rattle.std.specs.Char.{is_ascii_graphic}
use Rattle.hex.specs.Hex.{encode_lower}

-- a space, or an ASCII character that has a shape
abbrev pub is_printable : ℕ → Bool
is_printable b = b == 32 || is_ascii_graphic b

-- a printable byte as it is, and every other one by its two hexadecimal digits, as \x1b
abbrev pub shown_byte : ℕ → List ℕ
shown_byte b = if is_printable b then b ∷ [] else codes "\\x" ++ encode_lower (b ∷ [])

-- bytes as they are shown, one after the other
abbrev pub shown : List ℕ → List ℕ
shown bytes = flat_map shown_byte bytes

-- three dots where bytes are left out
abbrev pub dots : Bool → List ℕ
dots left_out = if left_out then codes "..." else []

-- the first bytes as they are shown, and dots for what is left out after them
abbrev pub first_shown : ℕ → List ℕ → List ℕ
first_shown most bytes = shown (take most bytes) ++ dots (nat_lt most (length bytes))

-- the last bytes as they are shown, after dots for what is left out before them
abbrev pub last_shown : ℕ → List ℕ → List ℕ
last_shown most bytes = dots (nat_lt most (length bytes)) ++ shown (drop (length bytes - most) bytes)
