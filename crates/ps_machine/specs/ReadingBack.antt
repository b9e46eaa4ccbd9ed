-- What is read after bytes were replaced.
use Rattle.std.specs.Prelude.{◌≡◌, ℕ, ◌+◌, ◌^◌, ◌<◌, ◌≤◌, List, length, slice_index}
use Rattle.std.specs.Int.{w16, w32, to_be_bytes}
use Rattle.ps_machine.specs.Bytes.{replaced, be2, be4}

-- Replaced bytes are read back, and all others are as they were.
pub record ReadsBack : Type 0 where
  pub same_length : (bytes : List ℕ) (at : ℕ) (new : List ℕ) → at + length new ≤ length bytes → length (replaced bytes at new) ≡ length bytes
  pub before : (bytes : List ℕ) (at : ℕ) (new : List ℕ) (k : ℕ) → k < at → at ≤ length bytes → slice_index (replaced bytes at new) k ≡ slice_index bytes k
  pub within : (bytes : List ℕ) (at : ℕ) (new : List ℕ) (j : ℕ) → j < length new → at ≤ length bytes → slice_index (replaced bytes at new) (at + j) ≡ slice_index new j
  pub behind : (bytes : List ℕ) (at : ℕ) (new : List ℕ) (k : ℕ) → at + length new ≤ k → at ≤ length bytes → slice_index (replaced bytes at new) k ≡ slice_index bytes k
  pub two : (bytes : List ℕ) (at n : ℕ) → at ≤ length bytes → n < 2 ^ 16 → be2 (replaced bytes at (to_be_bytes w16 n)) at ≡ n
  pub four : (bytes : List ℕ) (at n : ℕ) → at ≤ length bytes → n < 2 ^ 32 → be4 (replaced bytes at (to_be_bytes w32 n)) at ≡ n
