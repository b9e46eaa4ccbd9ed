-- Two states of SF_OutControl that keep the same are the same.
use Rattle.std.proofs.Common.{◌≡◌, List, [], ◌∷◌, refl, ap, Some}
use Rattle.ps_model.specs.Kept.{Kept}
use Rattle.ps_block.proofs.Codes.{with_code, same_state}
use Rattle.ps_actuators.specs.declared.out_control.Phase.{Phase}
use Rattle.ps_actuators.specs.declared.out_control.Phase.TheVariants.{Idle, Init, WaitForSafeControl, WaitForReset, OutputDisabled, Enabled, ControlError, ResetError1, ResetError2}
use Rattle.ps_actuators.specs.declared.out_control.OutControlState.{OutControlState}
use Rattle.ps_actuators.specs.OutControlStates.{code_of, kept_of}

phases : List Phase
phases = Idle ∷ Init ∷ WaitForSafeControl ∷ WaitForReset ∷ OutputDisabled ∷ Enabled ∷ ControlError ∷ ResetError1 ∷ ResetError2 ∷ []

found_by_code : (p : Phase) → with_code code_of phases (code_of p) ≡ Some p
unfolding phases
found_by_code Idle = refl
found_by_code Init = refl
found_by_code WaitForSafeControl = refl
found_by_code WaitForReset = refl
found_by_code OutputDisabled = refl
found_by_code Enabled = refl
found_by_code ControlError = refl
found_by_code ResetError1 = refl
found_by_code ResetError2 = refl

-- two states of the table with one code are one
pub same_phase : (p q : Phase) → code_of p ≡ code_of q → p ≡ q
same_phase = same_state code_of phases found_by_code

pub same_kept : (s s' : OutControlState) → kept_of s ≡ kept_of s' → s ≡ s'
same_kept s s' e =
    let phase : s.phase ≡ s'.phase = same_phase s.phase s'.phase (ap (λ (k : Kept). k.code) e) in
    λ i. record { phase = phase i; since = (e i).timer; last_reset = (e i).last_reset; last_process = (e i).last_auxiliary }
