-- Facts that are told once. Nothing here is part of what is promised.
use Rattle.std.specs.Prelude.{◌≡◌, ◌⊎◌, ℕ, ◌<◌, ◌≤◌, ◌++◌, List, [], ◌∷◌, Contains, Some, length, slice_get, take}
use Rattle.std.specs.List.{AllZip}
use Rattle.ps_why.specs.declared.fact.Fact.{Fact}
use Rattle.ps_why.specs.Explanations.{IsOneOf}

-- A fact was told with a number, or is told at the end.
abbrev pub Enters : (old new : List Fact) → Fact → (n : ℕ) → Type 0
Enters old new fact n =
    (slice_get new n ≡ Some fact) × ((new ≡ old) ⊎ ((new ≡ old ++ fact ∷ []) × (n ≡ length old)))

-- a fact is one of the first so many
abbrev pub IsAmong : (count : ℕ) → List Fact → Fact → Type 0
IsAmong count given fact = (j : ℕ) × (j < count) × (slice_get given j ≡ Some fact)

-- The first so many of the given facts are told, with these numbers.
pub record EntersAll (old new : List Fact) (count : ℕ) (given : List Fact) (numbers : List ℕ) : Type 0 where
  pub kept : (n : ℕ) (fact : Fact) → slice_get old n ≡ Some fact → slice_get new n ≡ Some fact
  pub each : (fact : Fact) → IsAmong count given fact → IsOneOf new numbers fact
  pub right : AllZip (λ fact n. slice_get new n ≡ Some fact) (take count given) numbers
  pub only : (n : ℕ) (fact : Fact) → slice_get new n ≡ Some fact →
      (slice_get old n ≡ Some fact) ⊎ (IsAmong count given fact × Contains numbers n × (length old ≤ n))
