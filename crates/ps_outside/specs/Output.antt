-- An output of the system, as contracts see it.
use Rattle.std.specs.Prelude.{ℕ}

-- an output has a writer, and the count of the writes and flushes of it that failed
pub record Output (W : Type 0) : Type 0 where
  pub writer : W
  pub faults : ℕ
