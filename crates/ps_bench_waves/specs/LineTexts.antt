-- A line in the room that was taken for it.
use Rattle.std.specs.Prelude.{ℕ, List}

-- what stands in a line so far, and how many bytes it has room for
pub record LineText : Type 0 where
  pub text : List ℕ
  pub room : ℕ
