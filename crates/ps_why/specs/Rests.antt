-- When a fact rests on facts that are told.
use Rattle.std.specs.Prelude.{◌≡◌, ◌≢◌, ◌⊎◌, ℕ, ◌+◌, ◌<◌, ◌≤◌, Bool, true, false, List, Contains, Some}
use Rattle.std.specs.Prelude.{length, slice_get, slice_index_or}
use Rattle.ps_model.specs.Action.{Actual, assigns, calls, free}
use Rattle.ps_model.specs.Blocks.{block, latched, output_count, outs}
use Rattle.ps_model.specs.Demand.{demand}
use Rattle.ps_model.specs.Formula.{Formula}
use Rattle.ps_model.specs.Kept.{Kept, seen}
use Rattle.ps_model.specs.Network.{Network, first_pin, input_count, instance_count, is_driven, kind_at}
use Rattle.ps_model.specs.Scanning.{pin_at}
use Rattle.ps_model.specs.declared.demands.Need.{Need}
use Rattle.ps_model.specs.declared.demands.Need.TheVariants.{On, Off}
use Rattle.ps_ways.specs.Tables.{ways_of}
use Rattle.ps_ways.specs.Ways.{asks}
use Rattle.ps_ways.specs.declared.way.Ask.{Ask}
use Rattle.ps_why.specs.Facts.{OfCall}
use Rattle.ps_why.specs.Operands.{HasValue}
use Rattle.ps_why.specs.Grounds.{MayBe, PinHasValue, ReadIsTold}
use Rattle.ps_why.specs.Guards.{Decides}
use Rattle.ps_why.specs.declared.fact.Fact.{Fact}
use Rattle.ps_why.specs.declared.fact.Fact.TheVariants.{SignalIs, SignalWas, PinIs, AskIs, StateIs, StateWas}
use Rattle.ps_why.specs.declared.fact.Fact.TheVariants.{ResetWas, AuxiliaryWas, ModeIs, ModeWas}

-- the fact that a pin of the call of step k is not as a demand asks
abbrev pub unmet : (k : ℕ) → Need → Fact
unmet k (On j) = PinIs k j false
unmet k (Off j) = PinIs k j true

-- Signal s is output j of instance i.
pub record IsOutput (net : Network) (s i j : ℕ) : Type 0 where
  pub instance : i < instance_count net
  pub output : j < output_count (kind_at net i)
  pub place : s ≡ first_pin net i + j

-- `told`: the facts that are told
module _ (net : Network) (told : Fact → Type 0) where
  -- A signal is assigned a formula that has the value.
  pub record IsAssigned (s : ℕ) (b : Bool) : Type 0 where
    pub step : ℕ
    pub formula : Formula
    pub stands : slice_get net.steps step ≡ Some (assigns s formula)
    pub has_value : HasValue (ReadIsTold net told step) formula b

  -- Nothing drives a signal: it is FALSE.
  pub record IsUndriven (s : ℕ) (b : Bool) : Type 0 where
    pub no_input : input_count net ≤ s
    pub no_driver : is_driven net s ≡ false
    pub off : b ≡ false

  -- A safe output is FALSE, since a pin that its demand names is not as the demand asks.
  pub record IsDenied (s : ℕ) (b : Bool) : Type 0 where
    pub step : ℕ
    pub instance : ℕ
    pub args : List Actual
    pub stands : slice_get net.steps step ≡ Some (calls instance args)
    pub output : ℕ
    pub is_output : IsOutput net s instance output
    pub is_safe : output < length (block (kind_at net instance)).outputs
    pub need : Need
    pub demanded : Contains (demand (kind_at net instance) output) need
    pub not_met : told (unmet step need)
    pub off : b ≡ false

  -- An output shows the state that is told, whichever latched mode is left open.
  pub record IsShown (s : ℕ) (b : Bool) : Type 0 where
    pub instance : ℕ
    pub output : ℕ
    pub is_output : IsOutput net s instance output
    pub state : ℕ
    pub in_state : told (StateIs instance state)
    pub shows : (mode : ℕ) → ((m : ℕ) → told (ModeIs instance m) → mode ≡ m) →
        slice_index_or (outs (kind_at net instance) state mode) output false ≡ b

  -- A pin has the value of what stands at it.
  abbrev pub IsRead : (k j : ℕ) → Bool → Type 0
  IsRead k j b = OfCall net k (λ i args.
      PinHasValue net told k (pin_at (kind_at net i) j).free (slice_index_or args j free) b)

  -- What a guard asks holds, or not, whatever is left open of pins, of the last step, and of the limit.
  abbrev pub IsSettled : (k : ℕ) → Ask → Bool → Type 0
  IsSettled k a b = OfCall net k (λ i args. (pins : ℕ → Bool) (elapsed : Bool) (kept : Kept) →
      MayBe net told k i pins kept → asks a (seen (kind_at net i) pins elapsed kept) ≡ b)

  -- Activate is FALSE: the instance is idle.
  abbrev pub IsInactive : (k q : ℕ) → Type 0
  IsInactive k q = told (PinIs k 0 false) × (q ≡ 0)

  -- Activate is TRUE, and the instance was idle: it enters its first state.
  abbrev pub IsEntered : (k i q : ℕ) → Type 0
  IsEntered k i q = told (PinIs k 0 true) × told (StateWas i 0) × (q ≡ (block (kind_at net i)).first)

  -- Activate is TRUE, and the guards of the state before decide.
  pub record IsDecided (k i q : ℕ) : Type 0 where
    pub active : told (PinIs k 0 true)
    pub before : ℕ
    pub was : told (StateWas i before)
    pub not_idle : before ≢ 0
    pub decides : Decides told k (ways_of (kind_at net i)) before q

  -- A called instance comes to a state.
  pub record IsMoved (i q : ℕ) : Type 0 where
    pub step : ℕ
    pub args : List Actual
    pub stands : slice_get net.steps step ≡ Some (calls i args)
    pub moves : IsInactive step q ⊎ (IsEntered step i q ⊎ IsDecided step i q)

  -- A called instance has latched a mode, whatever is left open of pins and of the last step.
  pub record IsLatched (i m : ℕ) : Type 0 where
    pub step : ℕ
    pub args : List Actual
    pub stands : slice_get net.steps step ≡ Some (calls i args)
    pub before : ℕ
    pub behind : ℕ
    pub was : told (StateWas i before)
    pub is : told (StateIs i behind)
    pub same : (pins : ℕ → Bool) (kept : Kept) → MayBe net told step i pins kept →
        latched (kind_at net i) pins before behind kept.mode ≡ m

  -- A fact rests on what is told. What was before the scan rests on nothing.
  abbrev pub Rests : Fact → Type 0
  Rests (SignalIs s b) = IsAssigned s b ⊎ (IsUndriven s b ⊎ (IsDenied s b ⊎ IsShown s b))
  Rests (PinIs k j b) = IsRead k j b
  Rests (AskIs k a b) = IsSettled k a b
  Rests (StateIs i q) = IsMoved i q
  Rests (ModeIs i m) = IsLatched i m
  Rests (SignalWas s b) = ⊥
  Rests (StateWas i q) = ⊥
  Rests (ResetWas i b) = ⊥
  Rests (AuxiliaryWas i b) = ⊥
  Rests (ModeWas i m) = ⊥
