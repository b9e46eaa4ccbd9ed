-- What SF_ModeSelector shows in each state, and that it keeps a mode where the table says so.
use Rattle.std.proofs.Common.{◌≡◌, ◌<◌, ◌^◌, true, refl, lit<}
use Rattle.ps_model.specs.Blocks.{block, outs}
use Rattle.ps_model.specs.Stored.{is_mode, is_state}
use Rattle.ps_model.specs.declared.kind.Kind.TheVariants.{ModeSelector}
use Rattle.ps_block.specs.Shown.{Shows, shown, shown_in}
use Rattle.ps_operator.specs.declared.mode_selector.Mode.TheVariants.{Mode0, Mode1, Mode2, Mode3, Mode4, Mode5, Mode6, Mode7}
use Rattle.ps_operator.specs.declared.mode_selector.Phase.{Phase}
use Rattle.ps_operator.specs.declared.mode_selector.Phase.TheVariants.{Idle, ModeChanged, Selected, Locked, ShortCircuit, OpenCircuit, ResetError1, ResetError2}
use Rattle.ps_operator.specs.declared.mode_selector.ModeSelectorState.{ModeSelectorState}
use Rattle.ps_operator.specs.ModeSelectorStates.{code_of, mode_of, bits_of, kept_of}

outputs : (p : Phase) → shown 9 (shown_in (code_of p) (bits_of p)) ≡ outs ModeSelector (code_of p) (mode_of p)
unfolding outs block
outputs Idle = refl
outputs ModeChanged = refl
outputs (Selected Mode0) = refl
outputs (Selected Mode1) = refl
outputs (Selected Mode2) = refl
outputs (Selected Mode3) = refl
outputs (Selected Mode4) = refl
outputs (Selected Mode5) = refl
outputs (Selected Mode6) = refl
outputs (Selected Mode7) = refl
outputs (Locked Mode0) = refl
outputs (Locked Mode1) = refl
outputs (Locked Mode2) = refl
outputs (Locked Mode3) = refl
outputs (Locked Mode4) = refl
outputs (Locked Mode5) = refl
outputs (Locked Mode6) = refl
outputs (Locked Mode7) = refl
outputs ShortCircuit = refl
outputs OpenCircuit = refl
outputs ResetError1 = refl
outputs ResetError2 = refl

few : (p : Phase) → bits_of p < 2 ^ 9
few Idle = lit< tt
few ModeChanged = lit< tt
few (Selected Mode0) = lit< tt
few (Selected Mode1) = lit< tt
few (Selected Mode2) = lit< tt
few (Selected Mode3) = lit< tt
few (Selected Mode4) = lit< tt
few (Selected Mode5) = lit< tt
few (Selected Mode6) = lit< tt
few (Selected Mode7) = lit< tt
few (Locked Mode0) = lit< tt
few (Locked Mode1) = lit< tt
few (Locked Mode2) = lit< tt
few (Locked Mode3) = lit< tt
few (Locked Mode4) = lit< tt
few (Locked Mode5) = lit< tt
few (Locked Mode6) = lit< tt
few (Locked Mode7) = lit< tt
few ShortCircuit = lit< tt
few OpenCircuit = lit< tt
few ResetError1 = lit< tt
few ResetError2 = lit< tt

pub mode_shows : (s : ModeSelectorState) → Shows ModeSelector (shown_in (code_of s.phase) (bits_of s.phase)) (kept_of s)
unfolding block
mode_shows s = record { outputs = outputs s.phase; no_more = few s.phase; code = refl }

pub mode_state : (p : Phase) → is_state ModeSelector (code_of p) ≡ true
unfolding block
mode_state Idle = refl
mode_state ModeChanged = refl
mode_state (Selected m) = refl
mode_state (Locked m) = refl
mode_state ShortCircuit = refl
mode_state OpenCircuit = refl
mode_state ResetError1 = refl
mode_state ResetError2 = refl

pub mode_kept : (p : Phase) → is_mode ModeSelector (code_of p) (mode_of p) ≡ true
mode_kept Idle = refl
mode_kept ModeChanged = refl
mode_kept (Selected Mode0) = refl
mode_kept (Selected Mode1) = refl
mode_kept (Selected Mode2) = refl
mode_kept (Selected Mode3) = refl
mode_kept (Selected Mode4) = refl
mode_kept (Selected Mode5) = refl
mode_kept (Selected Mode6) = refl
mode_kept (Selected Mode7) = refl
mode_kept (Locked Mode0) = refl
mode_kept (Locked Mode1) = refl
mode_kept (Locked Mode2) = refl
mode_kept (Locked Mode3) = refl
mode_kept (Locked Mode4) = refl
mode_kept (Locked Mode5) = refl
mode_kept (Locked Mode6) = refl
mode_kept (Locked Mode7) = refl
mode_kept ShortCircuit = refl
mode_kept OpenCircuit = refl
mode_kept ResetError1 = refl
mode_kept ResetError2 = refl
