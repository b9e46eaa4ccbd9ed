-- Words without letter case (IEC 61131-3): keywords, names, kinds and pins are told apart by everything but the case of
-- ASCII letters.
use Rattle.std.specs.Prelude.{◌≡◌, ℕ, Bool, List, map}
use Rattle.std.specs.Char.{to_ascii_lowercase}
use Rattle.std.specs.Str.{bytes_eq}

-- a word with each capital letter made small
abbrev pub folded : List ℕ → List ℕ
folded bytes = map to_ascii_lowercase bytes

-- two words are the same without letter case
abbrev pub SameName : List ℕ → List ℕ → Type 0
SameName a b = folded a ≡ folded b

-- the same as a test
abbrev pub is_same_name : List ℕ → List ℕ → Bool
is_same_name a b = bytes_eq (folded a) (folded b)
