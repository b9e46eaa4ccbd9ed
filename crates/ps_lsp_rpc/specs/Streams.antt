-- What reading of a stream takes from it.
use Rattle.std.specs.Prelude.{◌≡◌, ℕ, ◌<◌, ◌≤◌, List, [], ◌∷◌, ◌++◌, length, Option, MatchOption}

-- a byte is taken from the front of what is ahead, or nothing is ahead
abbrev pub TakesByte : (before after : List ℕ) → Option ℕ → Type 0
TakesByte before after given = MatchOption given ((before ≡ []) × (after ≡ [])) (λ byte. before ≡ byte ∷ after)

-- so many bytes are taken from the front of what is ahead, or all where there are fewer
pub record TakesUpTo (most : ℕ) (before after bytes : List ℕ) : Type 0 where
  pub is : before ≡ bytes ++ after
  pub few : length bytes ≤ most
  pub fewer : length bytes < most → after ≡ []
