-- The words of a line that count, and what stands between blanks.
use Rattle.std.specs.Prelude.{ℕ, ◌-◌, List, [], ◌∷◌, ◌==◌, ◌&&◌, Bool, true, false, nat_lt, if◌then◌else◌, length, take}
use Rattle.std.specs.Prelude.{drop}
use Rattle.std.specs.List.{list_all, prefix_len, suffix_len}
use Rattle.std.specs.Char.{is_ascii_digit}
use Rattle.ps_trace.specs.Words.{is_blank, words}

-- whether a word begins a comment: its first byte is `#`
abbrev pub is_comment : List ℕ → Bool
is_comment [] = false
is_comment (b ∷ word) = b == 35

-- the words in front of a comment
abbrev pub counted : List (List ℕ) → List (List ℕ)
counted [] = []
counted (word ∷ words) = if is_comment word then [] else word ∷ counted words

-- the words of a line that count
abbrev pub words_in : List ℕ → List (List ℕ)
words_in line = counted (words line)

-- whether there is no word
abbrev pub is_none_left : List (List ℕ) → Bool
is_none_left [] = true
is_none_left (word ∷ words) = false

-- whether a word is one or more decimal digits
abbrev pub is_digits : List ℕ → Bool
is_digits word = nat_lt 0 (length word) && list_all is_ascii_digit word

-- bytes without the blanks in front
abbrev pub behind_blanks : List ℕ → List ℕ
behind_blanks bytes = drop (prefix_len is_blank bytes) bytes

-- bytes without the blanks at the end
abbrev pub before_blanks : List ℕ → List ℕ
before_blanks bytes = take (length bytes - suffix_len is_blank bytes) bytes
