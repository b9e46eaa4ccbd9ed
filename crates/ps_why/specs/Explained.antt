-- An explanation: facts of a scan, each of which is a leaf or rests on others.
use Rattle.std.specs.Prelude.{◌≡◌, ◌⊎◌, ℕ, ◌<◌, List, Contains}
use Rattle.ps_model.specs.Network.{Network, input_count}
use Rattle.ps_model.specs.Scanning.{State}
use Rattle.ps_ways.specs.declared.way.Ask.TheVariants.{Elapsed}
use Rattle.ps_why.specs.Facts.{IsSo}
use Rattle.ps_why.specs.Rests.{Rests}
use Rattle.ps_why.specs.declared.fact.Fact.{Fact}
use Rattle.ps_why.specs.declared.fact.Fact.TheVariants.{SignalIs, SignalWas, AskIs, StateWas}
use Rattle.ps_why.specs.declared.fact.Fact.TheVariants.{ResetWas, AuxiliaryWas, ModeWas}

-- the value of an input
abbrev pub IsOfInput : Network → Fact → Type 0
IsOfInput net (SignalIs s b) = s < input_count net
IsOfInput net _ = ⊥

-- what was before the scan, and whether a limit has elapsed since
abbrev pub IsOfBefore : Fact → Type 0
IsOfBefore (SignalWas s b) = Unit {0}
IsOfBefore (StateWas i q) = Unit {0}
IsOfBefore (ResetWas i b) = Unit {0}
IsOfBefore (AuxiliaryWas i b) = Unit {0}
IsOfBefore (ModeWas i m) = Unit {0}
IsOfBefore (AskIs k a b) = a ≡ Elapsed
IsOfBefore _ = ⊥

-- a fact at which an explanation ends
abbrev pub IsLeaf : Network → Fact → Type 0
IsLeaf net fact = IsOfInput net fact ⊎ IsOfBefore fact

-- Each of these facts is a leaf, or rests on others of them, in whatever order they are told. In the end none rests on
-- itself: the facts of a call rest on those of its pins, and these on signals whose steps are earlier.
abbrev pub IsExplained : Network → List Fact → Type 0
IsExplained net facts = (fact : Fact) → Contains facts fact → IsLeaf net fact ⊎ Rests net (Contains facts) fact

-- a scan, as in Facts
module _ (net : Network) (old : State) (since : ℕ) (new : State) where
  -- Each of these facts is so.
  abbrev pub EachIsSo : List Fact → Type 0
  EachIsSo facts = (fact : Fact) → Contains facts fact → IsSo net old since new fact

  -- Each of these facts that is of a sort is so.
  abbrev pub EachOfIsSo : (Fact → Type 0) → List Fact → Type 0
  EachOfIsSo Sort facts = (fact : Fact) → Contains facts fact → Sort fact → IsSo net old since new fact
