-- The source in a report: its lines with their numbers.
use Rattle.std.specs.Prelude.{ℕ, suc, ◌==◌, List, [], ◌∷◌, ◌++◌, codes, decimal, min, nat_lt, if◌then◌else◌}
use Rattle.std.specs.List.{slice_split}

-- what stands before a number, so that those up to 99,999 end in one column
abbrev pub margin : ℕ → List ℕ
margin n =
    if nat_lt n 10 then codes "     "
    else if nat_lt n 100 then codes "    "
    else if nat_lt n 1000 then codes "   "
    else if nat_lt n 10000 then codes "  "
    else codes " "

-- a line with its number
abbrev pub numbered_line : (number : ℕ) → (line : List ℕ) → List ℕ
numbered_line number line = margin number ++ decimal number ++ codes "  " ++ line ++ codes "\n"

-- the lines after so many others, with their numbers; 4,294,967,295 is the largest one
abbrev pub numbered_behind : (before : ℕ) → List (List ℕ) → List ℕ
numbered_behind before [] = []
numbered_behind before (line ∷ lines) =
    numbered_line (min (suc before) 4294967295) line ++ numbered_behind (suc before) lines

-- a text with the numbers of its lines, counted from 1
abbrev pub numbered : (text : List ℕ) → List ℕ
numbered text = numbered_behind 0 (slice_split (λ b. b == 10) text)
