-- The words of a line, between its spaces.
use Rattle.std.specs.Prelude.{◌≡◌, ℕ, false, List, [], ◌==◌, Option, Some, None, All}
use Rattle.std.specs.List.{slice_split}
use Rattle.ps_flow.specs.declared.text.TheConstants.{SPACE}

-- the byte does not stand in the text
abbrev pub HasNo : ℕ → List ℕ → Type 0
HasNo byte text = All (λ b. (b == byte) ≡ false) text

-- what stands between the spaces of a line
abbrev pub words_in : List ℕ → List (List ℕ)
words_in line = slice_split (λ b. b == SPACE) line

-- the words that are left, where there are any
abbrev pub words_left : Option (List ℕ) → List (List ℕ)
words_left None = []
words_left (Some line) = words_in line
