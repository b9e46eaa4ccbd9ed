-- One scan: the equations that the new state solves. Profile.
use Rattle.std.specs.Prelude.{◌≡◌, ℕ, Bool, false, List, [], ◌∷◌, ◌+◌, ◌<◌, ◌≤◌, length, if◌then◌else◌, slice_index_or}
use Rattle.std.specs.Prelude.{slice_get, Some}
use Rattle.ps_model.specs.declared.kind.Kind.{Kind}
use Rattle.ps_model.specs.declared.kind.Ty.{Ty}
use Rattle.ps_model.specs.declared.kind.Ty.TheVariants.{Bool as Plain, Time}
use Rattle.ps_model.specs.Formula.{Formula, value}
use Rattle.ps_model.specs.Blocks.{Block_state, Pin, block, idle, moved, outs, output_count}
use Rattle.ps_model.specs.Network.{Network, input_count, signal_count, instance_count, kind_at, first_pin, is_new}
use Rattle.ps_model.specs.Network.{is_driven}
use Rattle.ps_model.specs.Action.{Actual, free, literal, time, wired, assigns, calls}

-- a Boolean for each signal and a block state for each instance
pub record State : Type 0 where
  pub signals : List Bool
  pub blocks : List Block_state

-- the value of a signal, FALSE past the signals
abbrev pub signal_in : State → ℕ → Bool
signal_in w s = slice_index_or w.signals s false

-- the state of an instance, idle past the instances
abbrev pub block_in : State → ℕ → Block_state
block_in w i = slice_index_or w.blocks i idle

-- what stands past the pins of a kind
abbrev pub no_pin : Pin
no_pin = record { name = []; ty = Plain; free = false }

-- an input pin of a kind
abbrev pub pin_at : Kind → ℕ → Pin
pin_at kind j = slice_index_or (block kind).inputs j no_pin

-- the value of a Boolean pin: free, a literal, or a value under v; a TIME literal is FALSE there
abbrev pub pin_value : (ℕ → Bool) → Bool → Actual → Bool
pin_value v default free = default
pin_value v default (literal b) = b
pin_value v default (time t) = false
pin_value v default (wired e) = value v e

-- the values of the input pins of a call under v
abbrev pub pins_under : (ℕ → Bool) → Kind → List Actual → ℕ → Bool
pins_under v kind args j = pin_value v (pin_at kind j).free (slice_index_or args j free)

-- the limit at a TIME pin: its literal, and else 0 ms
abbrev pub time_value : Ty → Actual → ℕ
time_value Time (time t) = t
time_value _ _ = 0

-- the limits at these pins together; no kind has two TIME pins
abbrev pub times_at : List Pin → List Actual → ℕ
times_at [] args = 0
times_at (p ∷ ps) [] = 0
times_at (p ∷ ps) (a ∷ args) = time_value p.ty a + times_at ps args

-- the limit of a call in ms: the kind's own, or the literal at its TIME pin; no kind has both
abbrev pub limit_of : Kind → List Actual → ℕ
limit_of kind args = (block kind).fixed_limit + times_at (block kind).inputs args

module _ (net : Network) (old : State) (new : State) where
  -- a signal as step k reads it
  abbrev pub read_at : ℕ → ℕ → Bool
  read_at k s = if is_new net k s then signal_in new s else signal_in old s

-- new is the state after a scan with these inputs, dt after the scan of old
pub record Solves (net : Network) (old : State) (ins : List Bool) (dt : ℕ) (new : State) : Type 0 where
  -- it has a value for each signal and a state for each instance
  pub signal_each : length new.signals ≡ signal_count net
  pub block_each : length new.blocks ≡ instance_count net
  -- an input has the scan's value
  pub inputs : (s : ℕ) → s < input_count net → signal_in new s ≡ slice_index_or ins s false
  -- an assigned signal has the value of its formula, as the step reads it
  pub assigned : (k t : ℕ) (e : Formula) → slice_get net.steps k ≡ Some (assigns t e) →
      signal_in new t ≡ value (read_at net old new k) e
  -- a signal without a driver is FALSE
  pub undriven : (s : ℕ) → input_count net ≤ s → is_driven net s ≡ false → signal_in new s ≡ false
  -- a called instance has moved from its old state, with its pins as the step reads them
  pub called : (k i : ℕ) (args : List Actual) → slice_get net.steps k ≡ Some (calls i args) →
      block_in new i ≡ moved (kind_at net i) (limit_of (kind_at net i) args) (pins_under (read_at net old new k) (kind_at net i) args) dt (block_in old i)
  -- a pin output is what the new state of its instance shows
  pub pin_outputs : (i j : ℕ) → i < instance_count net → j < output_count (kind_at net i) →
      signal_in new (first_pin net i + j) ≡ slice_index_or (outs (kind_at net i) (block_in new i).code (block_in new i).mode) j false

-- exactly one state solves
pub record HasOneSolution (net : Network) (old : State) (ins : List Bool) (dt : ℕ) : Type 0 where
  pub solution : State
  pub solves : Solves net old ins dt solution
  pub only : (new : State) → Solves net old ins dt new → new ≡ solution
