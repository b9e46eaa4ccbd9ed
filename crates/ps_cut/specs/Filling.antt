-- Inputs of an application in a scan, from those of its part.
use Rattle.std.specs.Prelude.{◌≡◌, ◌==◌, ℕ, Bool, false, cond, List, [], ◌∷◌, length, slice_get, Some}
use Rattle.ps_cut.specs.declared.part.Origin.{Origin}
use Rattle.ps_cut.specs.declared.part.Origin.TheVariants.{Now, Before}

-- it has the value of this signal of the application in each scan
abbrev pub is_value_of : ℕ → Origin → Bool
is_value_of s (Now r) = r == s
is_value_of s (Before r) = false

-- The value of an input of the application: that of the first input of the part that has it, or else another one.
abbrev pub filled : List Origin → List Bool → (s : ℕ) → (other : Bool) → Bool
filled [] values s other = other
filled (o ∷ origins) [] s other = other
filled (o ∷ origins) (v ∷ values) s other = cond (is_value_of s o) v (filled origins values s other)

-- There is a value for each input of the application: that which the part gives it, or else that of a filling.
pub record AreFilled (origins : List Origin) (values filling inputs : List Bool) : Type 0 where
  pub each : length inputs ≡ length filling
  pub value : (s : ℕ) (other : Bool) → slice_get filling s ≡ Some other → slice_get inputs s ≡ Some (filled origins values s other)
