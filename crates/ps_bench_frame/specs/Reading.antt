-- A reader of names as they stand in a line, which goes on byte by byte.
use Rattle.std.specs.Prelude.{ℕ, ◌==◌, ◌+◌, ◌*◌, List, [], ◌∷◌, if◌then◌else◌}
use Rattle.ps_text.specs.Unescaping.{digit_value}

-- Where a reader is: outside of what stands for another byte; behind a backslash; behind its `x`; or behind the first
-- digit, with the number of that.
pub data At : Type 0 where
  outside : At
  behind_backslash : At
  behind_x : At
  behind_digit : ℕ → At

-- what a reader gets that is at some place
abbrev pub read_from : List ℕ → At → List ℕ
read_from [] at = []
read_from (b ∷ bs) outside = if b == 92 then read_from bs behind_backslash else b ∷ read_from bs outside
read_from (b ∷ bs) behind_backslash = if b == 120 then read_from bs behind_x else b ∷ read_from bs outside
read_from (b ∷ bs) behind_x = read_from bs (behind_digit (digit_value b))
read_from (b ∷ bs) (behind_digit n) = (16 * n + digit_value b) ∷ read_from bs outside

-- the name that is read from what stands in a line
abbrev pub name_read : List ℕ → List ℕ
name_read text = read_from text outside
