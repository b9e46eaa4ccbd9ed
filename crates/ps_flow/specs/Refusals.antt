-- Where an application breaks a rule of SAFEBOOL flow.
use Rattle.std.specs.Prelude.{◌≡◌, ◌≢◌, ◌⊎◌, ℕ, true, false, List, ◌<◌, length, slice_get, slice_index_or, Option, Some}
use Rattle.std.specs.Prelude.{None}
use Rattle.ps_model.specs.declared.kind.Ty.{Ty}
use Rattle.ps_model.specs.declared.kind.Ty.TheVariants.{Safe, Time}
use Rattle.ps_model.specs.Action.{Actual, Action, free, literal, time, wired, assigns, calls}
use Rattle.ps_model.specs.Scanning.{pin_at}
use Rattle.ps_model.specs.Network.{Network, kind_at}
use Rattle.ps_model.specs.Typing.{safe, is_safe_signal, MayStand}
use Rattle.ps_base.specs.declared.failing.Rule.{Rule}
use Rattle.ps_base.specs.declared.failing.Rule.TheVariants.{S1, S2, S3, S4}
use Rattle.ps_flow.specs.declared.refusal.PinFail.{PinFail}
use Rattle.ps_flow.specs.declared.refusal.PinFail.TheVariants.{Memory, Breaks}
use Rattle.ps_flow.specs.declared.refusal.StepFail.{StepFail}
use Rattle.ps_flow.specs.declared.refusal.StepFail.TheVariants.{Memory as StepMemory, Breaks as StepBreaks}

module _ (net : Network) where
  -- what stands at a pin breaks the rule: a BOOL value at a SAFEBOOL pin (S2), a TIME literal at a Boolean pin (S3),
  -- a Boolean literal or a value at a TIME pin (S4)
  abbrev pub BreaksAt : Ty → Actual → Rule → Type 0
  BreaksAt ty free rule = ⊥
  BreaksAt ty (literal b) rule = (rule ≡ S4) × (ty ≡ Time)
  BreaksAt ty (time t) rule = (rule ≡ S3) × (ty ≢ Time)
  BreaksAt ty (wired e) rule = ((rule ≡ S2) × ((ty ≡ Safe) × (safe net e ≡ false))) ⊎ ((rule ≡ S4) × (ty ≡ Time))

  -- the first pins of a call hold what may stand there
  abbrev pub FitsUpTo : ℕ → ℕ → List Actual → Type 0
  FitsUpTo n i args = (j : ℕ) → j < n → MayStand net (pin_at (kind_at net i) j).ty (slice_index_or args j free)

  -- A step breaks no rule: what is assigned to a SAFEBOOL signal is safe, and each pin of a call holds what may stand
  -- there.
  abbrev pub FitsStep : Action → Type 0
  FitsStep (assigns t e) = is_safe_signal net t ≡ true → safe net e ≡ true
  FitsStep (calls i args) = FitsUpTo (length args) i args

  -- a step breaks the rule, at a pin where it is a call, and no pin before that does
  abbrev pub BreaksStep : Action → Rule → Option ℕ → Type 0
  BreaksStep (assigns t e) rule None = (rule ≡ S1) × (is_safe_signal net t ≡ true) × (safe net e ≡ false)
  BreaksStep (calls i args) rule (Some j) =
      (j < length args) × BreaksAt (pin_at (kind_at net i) j).ty (slice_index_or args j free) rule × FitsUpTo j i args
  BreaksStep _ rule pin = ⊥

-- what the answers of the parts say
abbrev pub PinFails : Network → Ty → Actual → PinFail → Type 0
PinFails net ty a Memory = Unit {0}
PinFails net ty a (Breaks rule) = BreaksAt net ty a rule

-- What the answer of a step says: memory runs out, or the step breaks the rule at the pin.
abbrev pub StepFails : Network → Action → StepFail → Type 0
StepFails net a StepMemory = Unit {0}
StepFails net a (StepBreaks rule pin) = BreaksStep net a rule pin

-- the first step that breaks a rule, and its first pin that does
pub record IsFirstBreach (net : Network) (rule : Rule) (step : ℕ) (pin : Option ℕ) : Type 0 where
  pub action : Action
  pub here : slice_get net.steps step ≡ Some action
  pub breaks : BreaksStep net action rule pin
  pub earlier : (k : ℕ) (a : Action) → k < step → slice_get net.steps k ≡ Some a → FitsStep net a
