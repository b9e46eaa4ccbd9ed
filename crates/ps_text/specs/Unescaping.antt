-- A reader of values with escapes, which goes on byte by byte.
use Rattle.std.specs.Prelude.{ℕ, ◌==◌, ◌+◌, ◌-◌, ◌*◌, List, [], ◌∷◌, nat_lt, if◌then◌else◌}

-- Where a reader is: outside of escapes; after the `&` of one, or its `#`; or after its `x`, with the number that its
-- digits make so far.
pub data At : Type 0 where
  outside : At
  behind_and : At
  behind_hash : At
  in_number : ℕ → At

-- the number of a hexadecimal digit
abbrev pub digit_value : ℕ → ℕ
digit_value c = if nat_lt c 58 then c - 48 else c - 87

-- what a reader gets that is at some place
abbrev pub read_from : List ℕ → At → List ℕ
read_from [] at = []
read_from (c ∷ cs) outside = if c == 38 then read_from cs behind_and else c ∷ read_from cs outside
read_from (c ∷ cs) behind_and = read_from cs behind_hash
read_from (c ∷ cs) behind_hash = read_from cs (in_number 0)
read_from (c ∷ cs) (in_number n) =
    if c == 59 then n ∷ read_from cs outside else read_from cs (in_number (16 * n + digit_value c))

-- the value that is read from what is written
abbrev pub unescaped : List ℕ → List ℕ
unescaped text = read_from text outside
