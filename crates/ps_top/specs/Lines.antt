-- The lines of a text, and that of a certificate.
use Rattle.std.specs.Prelude.{◌≡◌, ◌≢◌, ◌<◌, ◌≤◌, ◌+◌, ◌-◌, ℕ, List, ◌++◌, codes, decimal, length, slice_index}

-- the line of a certificate that derives the application, as `verified 3 lines`
abbrev pub verified_line : ℕ → List ℕ
verified_line lines = codes "verified " ++ decimal lines ++ codes " lines\n"

-- the bytes of a text from one place up to another are one whole line of it, with its line feed
pub record IsLineOf (text : List ℕ) (from upto : ℕ) : Type 0 where
  pub some : from < upto
  pub within : upto ≤ length text
  pub begins : 0 < from → slice_index text (from - 1) ≡ 10
  pub one_line : (k : ℕ) → from ≤ k → k + 1 < upto → slice_index text k ≢ 10
  pub ends : upto < length text → slice_index text (upto - 1) ≡ 10
