-- What calls on files and on an output do.
use Rattle.std.specs.Prelude.{◌≡◌, ◌⊎◌, ◌<◌, ◌≤◌, ◌-◌, ℕ, List, length, take, drop}

-- the largest value of a count, at which it stays
abbrev pub last_count : ℕ
last_count = 18446744073709551615

-- a count is greater than before, or stands at its last value
abbrev pub Rose : ℕ → ℕ → Type 0
Rose before after = (before < after) ⊎ (last_count ≤ after)

-- the count of every name is as it was
abbrev pub CountsStay : (before after : List ℕ → ℕ) → Type 0
CountsStay before after = (name : List ℕ) → after name ≡ before name

-- the first n places of a buffer hold the n bytes of a text that stand at an offset
pub record Reads (text : List ℕ) (at n : ℕ) (buffer : List ℕ) : Type 0 where
  pub bytes : take n buffer ≡ take n (drop at text)
  pub there : n ≤ length text - at
  -- there is no byte only where the buffer has no place, or the text ends
  pub none : n ≡ 0 → 0 < length buffer → length text ≤ at
