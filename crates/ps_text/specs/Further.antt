-- Words below the line that is quoted.
use Rattle.std.specs.Prelude.{◌≡◌, ◌≢◌, ℕ, List, []}

-- where words are given, these are they
abbrev pub AreGiven : (given words : List ℕ) → Type 0
AreGiven given words = given ≢ [] → words ≡ given
