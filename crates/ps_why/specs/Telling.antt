-- What the search tells.
use Rattle.std.specs.Prelude.{◌≡◌, ◌⊎◌, ℕ, ◌+◌, ◌<◌, Bool, false, List, Contains, slice_index_or}
use Rattle.ps_model.specs.Formula.{Formula, value}
use Rattle.ps_model.specs.Table.{Conditions}
use Rattle.ps_ways.specs.Ways.{asks}
use Rattle.ps_ways.specs.declared.way.Ask.{Ask}
use Rattle.ps_why.specs.Operands.{HasValue}
use Rattle.ps_why.specs.declared.fact.Fact.{Fact}
use Rattle.ps_why.specs.declared.fact.Fact.TheVariants.{AskIs, PinIs}

-- A signal is one of those that are told, and this is its value among all.
abbrev pub IsTold : (signals : List Bool) → (told : List ℕ) → (s : ℕ) → Bool → Type 0
IsTold signals told s b = Contains told s × (slice_index_or signals s false ≡ b)

-- the value of a formula under these values of the signals; a signal past them is FALSE
abbrev pub value_under : List Bool → Formula → Bool
value_under signals e = value (λ s. slice_index_or signals s false) e

-- A formula has its value by the signals that are told.
abbrev pub HasItsValue : (signals : List Bool) → (told : List ℕ) → Formula → Type 0
HasItsValue signals told e = HasValue (IsTold signals told) e (value_under signals e)

-- Facts of a sort, and no others, come to those that were told.
pub record Adds (Sort : Fact → Type 0) (old new : List Fact) : Type 0 where
  pub kept : (fact : Fact) → Contains old fact → Contains new fact
  pub only : (fact : Fact) → Contains new fact → Contains old fact ⊎ Sort fact

-- The fact that something that a guard can ask holds under these conditions of the call of step k, or does not.
abbrev pub IsAskOf : (k : ℕ) → Conditions → Fact → Type 0
IsAskOf k c fact = (a : Ask) × (fact ≡ AskIs k a (asks a c))

-- The fact that a pin reads its value in the call of step k.
abbrev pub IsPinOf : (k : ℕ) → (ℕ → Bool) → Fact → Type 0
IsPinOf k pins fact = (j : ℕ) × (fact ≡ PinIs k j (pins j))

-- It is told what the pins of the modes read.
abbrev pub TellsModes : (k : ℕ) → (ℕ → Bool) → List Fact → Type 0
TellsModes k pins facts = (m : ℕ) → m < 8 → Contains facts (PinIs k (m + 1) (pins (m + 1)))
