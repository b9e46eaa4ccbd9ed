-- On what a fact can rest: what is told of a call, and of what it reads.
use Rattle.std.specs.Prelude.{◌≡◌, ℕ, Bool, false}
use Rattle.std.specs.Bool.{MatchBool}
use Rattle.ps_model.specs.Action.{Actual, free, literal, time, wired}
use Rattle.ps_why.specs.Operands.{HasValue}
use Rattle.ps_model.specs.Kept.{Kept}
use Rattle.ps_model.specs.Network.{Network, is_new}
use Rattle.ps_why.specs.declared.fact.Fact.{Fact}
use Rattle.ps_why.specs.declared.fact.Fact.TheVariants.{SignalIs, SignalWas, PinIs, ResetWas, AuxiliaryWas, ModeWas}

-- `told`: the facts that are told
module _ (net : Network) (told : Fact → Type 0) where
  -- It is told what step k reads of a signal: its value of this scan where it has one already, else that before it.
  abbrev pub ReadIsTold : (k s : ℕ) → Bool → Type 0
  ReadIsTold k s b = MatchBool (is_new net k s) (told (SignalIs s b)) (told (SignalWas s b))

  -- What stands at a pin of the call of step k has a value: one that is left free has the kind's.
  abbrev pub PinHasValue : (k : ℕ) → (default : Bool) → Actual → Bool → Type 0
  PinHasValue k default free b = default ≡ b
  PinHasValue k default (literal c) b = c ≡ b
  PinHasValue k default (time t) b = false ≡ b
  PinHasValue k default (wired e) b = HasValue (ReadIsTold k) e b

  -- Pins, and what an instance keeps of its last step, that agree with what is told of the call of step k, and of its
  -- instance i before the scan.
  pub record MayBe (k i : ℕ) (pins : ℕ → Bool) (kept : Kept) : Type 0 where
    pub pins_agree : (j : ℕ) (b : Bool) → told (PinIs k j b) → pins j ≡ b
    pub reset_agrees : (b : Bool) → told (ResetWas i b) → kept.last_reset ≡ b
    pub auxiliary_agrees : (b : Bool) → told (AuxiliaryWas i b) → kept.last_auxiliary ≡ b
    pub mode_agrees : (m : ℕ) → told (ModeWas i m) → kept.mode ≡ m
