-- Laws of the blocks, over every kind, state and pin.
use Rattle.std.specs.Prelude.{◌≡◌, ◌≢◌, ℕ, ◌+◌, ◌-◌, ◌<◌, ◌≤◌, ◌^◌, Bool, false, List, length, slice_index_or}
use Rattle.std.specs.Prelude.{slice_index, Some}
use Rattle.ps_model.specs.declared.kind.Kind.{Kind}
use Rattle.ps_model.specs.Blocks.{Block_state, block, moved, outs, error_in, ready_in}
use Rattle.ps_model.specs.Kept.{Kept, StandsBy, Since, Remains, stepped, stepped_at, counted_down, aged, healed}
use Rattle.ps_model.specs.Stored.{IsKept, Loads, loaded}
use Rattle.ps_model.specs.Demand.{Demands}

-- Each safe output has its demand.
abbrev pub EachDemands : Type 0
EachDemands = (kind : Kind) → Demands kind

-- A step with Activate FALSE leads to Idle, and in Idle every output is FALSE.
pub record OffWhereInactive : Type 0 where
  pub code : (kind : Kind) (limit : ℕ) (pins : ℕ → Bool) (dt : ℕ) (s : Block_state) → pins 0 ≡ false → (moved kind limit pins dt s).code ≡ 0
  pub outputs : (kind : Kind) (mode j : ℕ) → slice_index_or (outs kind 0 mode) j false ≡ false

-- after the safe outputs stands Ready
abbrev pub ready_of : Kind → List Bool → Bool
ready_of kind os = slice_index_or os (length (block kind).outputs) false

-- after the safe outputs and Ready stands Error
abbrev pub error_of : Kind → List Bool → Bool
error_of kind os = slice_index_or os (length (block kind).outputs + 1) false

-- Of the outputs, Error is TRUE exactly where the code is Cxxx, and Ready exactly outside Idle.
pub record ErrorsExactly : Type 0 where
  pub error : (kind : Kind) (q mode : ℕ) → error_of kind (outs kind q mode) ≡ error_in q
  pub ready : (kind : Kind) (q mode : ℕ) → ready_of kind (outs kind q mode) ≡ ready_in q

-- Bytes stand for at most one kept state of a kind.
abbrev pub StandsForOne : Type 0
StandsForOne = (kind : Kind) (bytes : List ℕ) (k k' : Kept) → Loads kind bytes k → Loads kind bytes k' → k ≡ k'

-- These are sixteen bytes.
pub record AreBytes (bytes : List ℕ) : Type 0 where
  pub sixteen : length bytes ≡ 16
  pub small : (i : ℕ) → slice_index bytes i < 256

-- `loaded` finds what is stored, and nothing else.
pub record LoadsExactly : Type 0 where
  pub stored_loads : (kind : Kind) (bytes : List ℕ) (k : Kept) → Loads kind bytes k → loaded kind bytes ≡ Some k
  pub loaded_is_stored : (kind : Kind) (bytes : List ℕ) (k : Kept) → AreBytes bytes → loaded kind bytes ≡ Some k → Loads kind bytes k

-- After a step a kind keeps what it can keep, whichever way its timer goes.
abbrev pub StepsAreKept : Type 0
StepsAreKept = (kind : Kind) (pins : ℕ → Bool) (elapsed : Bool) (anew running : ℕ) (k : Kept) →
    IsKept kind k → anew < 2 ^ 32 → running < 2 ^ 32 → IsKept kind (stepped kind pins elapsed anew running k)

-- With the age that the kept time gives, or 0 where that time is later than now, a step is the block's step.
abbrev pub StepsByKeptTime : Type 0
StepsByKeptTime = (kind : Kind) (limit : ℕ) (pins : ℕ → Bool) (now : ℕ) (k : Kept) →
    aged now (stepped_at kind limit pins now k) ≡ moved kind limit pins 0 (aged now k)

-- Channels A and C: where the kept time says the age before a step, it says the age after it.
abbrev pub GoesOn : Type 0
GoesOn = (kind : Kind) (limit : ℕ) (pins : ℕ → Bool) (t now dt : ℕ) (k : Kept) (b : Block_state) → t ≤ now →
    StandsBy (Since t) k b → (b.code ≢ 0 → dt ≡ now - t) → StandsBy (Since now) (stepped_at kind limit pins now k) (moved kind limit pins dt b)

-- Channel B: where the timer is the time that remains before a step, it is so after it.
abbrev pub CountsDown : Type 0
CountsDown = (kind : Kind) (limit : ℕ) (pins : ℕ → Bool) (passed dt : ℕ) (k : Kept) (b : Block_state) →
    StandsBy (Remains limit) k b → (b.code ≢ 0 → passed ≡ dt) → StandsBy (Remains limit) (counted_down kind limit pins passed k) (moved kind limit pins dt b)

-- What is rebuilt for channel B stands for the same block state.
abbrev pub Heals : Type 0
Heals = (limit t : ℕ) (k : Kept) (b : Block_state) → StandsBy (Since t) k b → StandsBy (Remains limit) (healed limit t k) b
