-- What is told of one scan, and when it is so.
use Rattle.std.specs.Prelude.{◌≡◌, ℕ, List, Some, slice_get}
use Rattle.ps_model.specs.Action.{Actual, calls}
use Rattle.ps_model.specs.Network.{Network}
use Rattle.ps_model.specs.Scanning.{State, block_in, signal_in}
use Rattle.ps_ways.specs.Calling.{pins_read, seen_by}
use Rattle.ps_ways.specs.Ways.{asks}
use Rattle.ps_why.specs.declared.fact.Fact.{Fact}
use Rattle.ps_why.specs.declared.fact.Fact.TheVariants.{SignalIs, SignalWas, PinIs, AskIs, StateIs, StateWas}
use Rattle.ps_why.specs.declared.fact.Fact.TheVariants.{ResetWas, AuxiliaryWas, ModeIs, ModeWas}

-- it is so of the call that stands at step k: of its instance, and of what stands at its pins
abbrev pub OfCall : Network → (k : ℕ) → ((i : ℕ) → List Actual → Type 0) → Type 0
OfCall net k P = (i : ℕ) (args : List Actual) → slice_get net.steps k ≡ Some (calls i args) → P i args

-- a scan of an application: the state before it, the ms that passed since the scan before, and the state after it
module _ (net : Network) (old : State) (since : ℕ) (new : State) where
  -- what is told is so
  abbrev pub IsSo : Fact → Type 0
  IsSo (SignalIs s b) = signal_in new s ≡ b
  IsSo (SignalWas s b) = signal_in old s ≡ b
  IsSo (PinIs k j b) = OfCall net k (λ i args. pins_read net old since new k i args j ≡ b)
  IsSo (AskIs k a b) = OfCall net k (λ i args. asks a (seen_by net old since new k i args) ≡ b)
  IsSo (StateIs i q) = (block_in new i).code ≡ q
  IsSo (StateWas i q) = (block_in old i).code ≡ q
  IsSo (ResetWas i b) = (block_in old i).last_reset ≡ b
  IsSo (AuxiliaryWas i b) = (block_in old i).last_auxiliary ≡ b
  IsSo (ModeIs i m) = (block_in new i).mode ≡ m
  IsSo (ModeWas i m) = (block_in old i).mode ≡ m
