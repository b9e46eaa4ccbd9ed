-- What drives a signal, and which step makes a fact.
use Rattle.std.specs.Prelude.{◌≡◌, ◌⊎◌, ℕ, List, Option, Some, MatchOption, slice_get}
use Rattle.ps_model.specs.Action.{Actual, assigns, calls}
use Rattle.ps_model.specs.Formula.{Formula}
use Rattle.ps_model.specs.Network.{Network}
use Rattle.ps_model.specs.declared.driver.Driver.{Driver}
use Rattle.ps_model.specs.declared.driver.Driver.TheVariants.{Assigned, Output}
use Rattle.ps_why.specs.Rests.{IsOutput}
use Rattle.ps_why.specs.declared.fact.Fact.{Fact}
use Rattle.ps_why.specs.declared.fact.Fact.TheVariants.{SignalIs, StateIs, ModeIs}

-- A signal is driven so: a step assigns it, or it is an output of an instance that a step calls.
abbrev pub IsDrivenBy : Network → (s : ℕ) → Driver → Type 0
IsDrivenBy net s (Assigned k) = (e : Formula) × (slice_get net.steps k ≡ Some (assigns s e))
IsDrivenBy net s (Output i j k) = (args : List Actual) × (slice_get net.steps k ≡ Some (calls i args)) × IsOutput net s i j

-- a step calls an instance
abbrev pub IsCalledAt : Network → (i k : ℕ) → Type 0
IsCalledAt net i k = (args : List Actual) × (slice_get net.steps k ≡ Some (calls i args))

-- a step assigns a signal, or calls the instance whose output it is
abbrev pub IsDrivenAt : Network → (s k : ℕ) → Type 0
IsDrivenAt net s k =
    ((e : Formula) × (slice_get net.steps k ≡ Some (assigns s e)))
    ⊎ ((i : ℕ) × (j : ℕ) × IsCalledAt net i k × IsOutput net s i j)

-- A step makes a fact of a scan: the one that drives the signal, or calls the instance whose state or mode it is. What
-- was before the scan, and what a call reads, is made by none.
abbrev pub IsMadeAt : Network → Fact → (k : ℕ) → Type 0
IsMadeAt net (SignalIs s b) k = IsDrivenAt net s k
IsMadeAt net (StateIs i q) k = IsCalledAt net i k
IsMadeAt net (ModeIs i m) k = IsCalledAt net i k
IsMadeAt net _ k = ⊥

-- the step that makes a fact, if one does
abbrev pub IsStepOf : Network → Fact → Option ℕ → Type 0
IsStepOf net fact o = MatchOption o ((k : ℕ) → ¬ IsMadeAt net fact k) (IsMadeAt net fact)
