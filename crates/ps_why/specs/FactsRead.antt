-- What is told of what a step reads.
use Rattle.std.specs.Prelude.{◌≡◌, ◌⊎◌, ℕ, Bool, List, Contains}
use Rattle.ps_model.specs.Formula.{Formula, value}
use Rattle.ps_model.specs.Network.{Network, is_new}
use Rattle.ps_why.specs.Operands.{HasValue}
use Rattle.ps_why.specs.Grounds.{ReadIsTold}
use Rattle.ps_why.specs.Reading.{fact_of_signal}
use Rattle.ps_why.specs.declared.fact.Fact.{Fact}
use Rattle.ps_why.specs.declared.fact.Fact.TheVariants.{ModeIs, StateIs}
use Rattle.ps_why.specs.Scenes.{read_in}
use Rattle.ps_why.specs.declared.call.CallScene.{CallScene}
use Rattle.ps_why.specs.declared.scene.Scene.{Scene}

-- the fact that a step reads a value of a signal: of this scan where it has one already, else of before it
abbrev pub fact_of_read : Network → (k s : ℕ) → Bool → Fact
fact_of_read net k s b = fact_of_signal (is_new net k s) s b

-- A formula has its value by these facts, each of which is what the step reads of a signal.
pub record GivesValue (net : Network) (x : Scene) (k : ℕ) (e : Formula) (facts : List Fact) : Type 0 where
  pub has : HasValue (ReadIsTold net (Contains facts) k) e (value (read_in net x k) e)
  pub only : (fact : Fact) → Contains facts fact → (s : ℕ) × (fact ≡ fact_of_read net k s (read_in net x k s))

-- The fact that an instance is in its state after the scan, or has latched its mode.
abbrev pub IsOfState : (i : ℕ) → CallScene → Fact → Type 0
IsOfState i call fact = (fact ≡ StateIs i call.code) ⊎ (fact ≡ ModeIs i call.mode)
