-- Bytes at places.
use Rattle.std.specs.Prelude.{ℕ, ◌+◌, ◌*◌, Bool, nat_lt, if◌then◌else◌, List, ◌++◌, length, take, drop}
pub use Rattle.ps_model.specs.Stored.{bit, be2, be4}

-- the bytes with new ones written at a place
abbrev pub replaced : List ℕ → ℕ → List ℕ → List ℕ
replaced bytes at new = take at bytes ++ (new ++ drop (at + length new) bytes)

-- the same where the new bytes are within, and nothing changed where they would pass the end
abbrev pub overwritten : List ℕ → ℕ → List ℕ → List ℕ
overwritten bytes at new = if nat_lt (length bytes) (at + length new) then bytes else replaced bytes at new

-- a byte that is neither 0 nor 1
abbrev pub is_no_bit : ℕ → Bool
is_no_bit byte = nat_lt 1 byte

-- the sixteen bytes of instance i, where those of instance 0 begin at a place
abbrev pub instance_bytes : (blocks : ℕ) → ℕ → List ℕ → List ℕ
instance_bytes blocks i cells = take 16 (drop (blocks + 16 * i) cells)
