-- Truth values as the lowest bits of a number.
use Rattle.std.specs.Prelude.{◌≡◌, ℕ, ◌<◌, ◌≤◌, Bool, false, List, length, slice_index_or}
use Rattle.std.specs.Int.{bit_at}
use Rattle.ps_machine.specs.Bytes.{bit}

-- bit j is truth value j, and the bits past the last are 0
pub record AreLowBits (values : List Bool) (number : ℕ) : Type 0 where
  pub each : (j : ℕ) → j < length values → bit_at number j ≡ bit (slice_index_or values j false)
  pub beyond : (j : ℕ) → length values ≤ j → bit_at number j ≡ 0
