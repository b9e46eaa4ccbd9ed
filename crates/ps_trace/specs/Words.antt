-- The words of a line, and the numbers that words are.
use Rattle.std.specs.Prelude.{◌≡◌, ℕ, ◌+◌, ◌-◌, ◌*◌, ◌<◌, ◌≤◌, List, [], ◌∷◌, length, Bool, true, false, ◌==◌, ◌||◌}
use Rattle.std.specs.Prelude.{◌&&◌, nat_lt, if◌then◌else◌, Option, Some, None, fold, slice_index}
use Rattle.std.specs.List.{list_all}
use Rattle.std.specs.Char.{is_ascii_digit}

-- spaces and tabs separate words, and nothing else does
abbrev pub is_blank : ℕ → Bool
is_blank b = b == 32 || b == 9

-- a byte in front of a word that follows at once
abbrev pub onto_word : ℕ → List (List ℕ) → List (List ℕ)
onto_word b [] = (b ∷ []) ∷ []
onto_word b (word ∷ words) = (b ∷ word) ∷ words

-- a byte that is no blank, in front of these bytes with these words
abbrev pub before_words : ℕ → List ℕ → List (List ℕ) → List (List ℕ)
before_words b [] words = (b ∷ []) ∷ words
before_words b (c ∷ bytes) words = if is_blank c then (b ∷ []) ∷ words else onto_word b words

-- the words of a line
abbrev pub words : List ℕ → List (List ℕ)
words [] = []
words (b ∷ bytes) = if is_blank b then words bytes else before_words b bytes (words bytes)

-- the words of a line that count: a line whose first byte is `#` has none
abbrev pub fields : List ℕ → List (List ℕ)
fields [] = []
fields (b ∷ bytes) = if b == 35 then [] else words (b ∷ bytes)

-- The first word among the bytes of a line from `at` on: its first byte stands at `from`, and its last before `upto`.
pub record IsNextWord (line : List ℕ) (at from upto : ℕ) : Type 0 where
  pub behind : at ≤ from
  pub some : from < upto
  pub within : upto ≤ length line
  pub blanks : (k : ℕ) → at ≤ k → k < from → is_blank (slice_index line k) ≡ true
  pub bytes : (k : ℕ) → from ≤ k → k < upto → is_blank (slice_index line k) ≡ false
  pub ends : upto < length line → is_blank (slice_index line upto) ≡ true

-- all bytes from a place on are blanks
abbrev pub AreBlank : List ℕ → ℕ → Type 0
AreBlank line at = (k : ℕ) → at ≤ k → k < length line → is_blank (slice_index line k) ≡ true

-- the value of digits
abbrev pub digits_value : List ℕ → ℕ
digits_value digits = fold (λ value digit. value * 10 + (digit - 48)) 0 digits

-- the number that a word is: one or more digits with a value of 32 bits
abbrev pub number_of : List ℕ → Option ℕ
number_of [] = None
number_of (b ∷ word) =
    if list_all is_ascii_digit (b ∷ word) && nat_lt (digits_value (b ∷ word)) 4294967296 then Some (digits_value (b ∷ word)) else None
