-- A stream in memory, as contracts see it.
use Rattle.std.specs.Prelude.{ℕ, List}

-- a stream in memory
pub record StreamInMemory : Type 0 where
  -- the bytes that are still to come
  pub coming : List ℕ
  -- the most bytes of each read, by its number; 0 for as many as are there
  pub sizes : List ℕ
  -- the numbers of the reads that fail, how many reads there were, and the count of faults
  pub failing : List ℕ
  pub calls : ℕ
  pub faults : ℕ
