-- Laws of what is told of a scan.
use Rattle.std.specs.Prelude.{◌≡◌, ◌⊎◌, ℕ, ◌<◌, Bool, List, Contains}
use Rattle.ps_model.specs.Formula.{Formula, value}
use Rattle.ps_model.specs.Network.{Network, instance_count}
use Rattle.ps_model.specs.Scanning.{Solves, State, read_at}
use Rattle.ps_why.specs.Explained.{EachIsSo, EachOfIsSo, IsExplained, IsLeaf, IsOfInput}
use Rattle.ps_why.specs.Facts.{IsSo}
use Rattle.ps_why.specs.Operands.{HasValue}
use Rattle.ps_why.specs.Grounds.{ReadIsTold}
use Rattle.ps_why.specs.Rests.{Rests}
use Rattle.ps_why.specs.declared.fact.Fact.{Fact}
use Rattle.ps_why.specs.declared.fact.Fact.TheVariants.{StateIs, ModeIs}

-- In every scan in which these facts are so, a formula has the value that follows from them at step k.
abbrev pub FormulasFollow : Type 0
FormulasFollow = (net : Network) (facts : List Fact) (k : ℕ) (e : Formula) (b : Bool) →
    HasValue (ReadIsTold net (Contains facts) k) e b → (old : State) (since : ℕ) (new : State) →
    EachIsSo net old since new facts → value (read_at net old new k) e ≡ b

-- In every scan in which these facts are so, a fact is so that rests on them.
abbrev pub GroundsAreEnough : Type 0
GroundsAreEnough = (net : Network) (facts : List Fact) (fact : Fact) → Rests net (Contains facts) fact →
    (old : State) (ins : List Bool) (since : ℕ) (new : State) → Solves net old ins since new →
    EachIsSo net old since new facts → IsSo net old since new fact

-- In every scan in which the leaves of an explanation are so, all of it is so.
abbrev pub WhyIsEnough : Network → Type 0
WhyIsEnough net = (facts : List Fact) → IsExplained net facts →
    (old : State) (ins : List Bool) (since : ℕ) (new : State) → Solves net old ins since new →
    EachOfIsSo net old since new (IsLeaf net) facts → EachIsSo net old since new facts

-- Where the leaves of an explanation are so in a scan, all of it is so in every scan from the same state and after the
-- same time in which the inputs that are told have their values, whatever the others have.
abbrev pub WhateverTheInputs : Network → Type 0
WhateverTheInputs net = (facts : List Fact) → IsExplained net facts →
    (old : State) (since : ℕ) (new : State) → EachOfIsSo net old since new (IsLeaf net) facts →
    (others : List Bool) (other : State) → Solves net old others since other →
    EachOfIsSo net old since other (IsOfInput net) facts → EachIsSo net old since other facts

-- An instance of which a fact speaks of the state after the scan, or of the mode, is declared.
abbrev pub IsOfApplication : Network → Fact → Type 0
IsOfApplication net (StateIs i q) = i < instance_count net
IsOfApplication net (ModeIs i m) = i < instance_count net
IsOfApplication net _ = Unit {0}

-- Whatever is so in a scan is a leaf, or rests on what else is so in it.
abbrev pub EachFactHasGrounds : Network → Type 0
EachFactHasGrounds net = (old : State) (ins : List Bool) (since : ℕ) (new : State) → Solves net old ins since new →
    (fact : Fact) → IsOfApplication net fact → IsSo net old since new fact →
    IsLeaf net fact ⊎ Rests net (IsSo net old since new) fact
