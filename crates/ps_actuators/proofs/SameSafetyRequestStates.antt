-- Two states of SF_SafetyRequest that keep the same are the same.
use Rattle.std.proofs.Common.{◌≡◌, List, [], ◌∷◌, refl, ap, Some}
use Rattle.ps_model.specs.Kept.{Kept}
use Rattle.ps_block.proofs.Codes.{with_code, same_state}
use Rattle.ps_actuators.specs.declared.safety_request.Phase.{Phase}
use Rattle.ps_actuators.specs.declared.safety_request.Phase.TheVariants.{Idle, Init, WaitForReset, Operation, WaitForAcknowledge, Safe, AcknowledgeLost, MonitoringError, ResetError2, ResetError3, WaitForOperation}
use Rattle.ps_actuators.specs.declared.safety_request.SafetyRequestState.{SafetyRequestState}
use Rattle.ps_actuators.specs.SafetyRequestStates.{code_of, kept_of}

phases : List Phase
phases = Idle ∷ Init ∷ WaitForReset ∷ Operation ∷ WaitForAcknowledge ∷ Safe ∷ AcknowledgeLost ∷ MonitoringError ∷ ResetError2 ∷ ResetError3 ∷ WaitForOperation ∷ []

found_by_code : (p : Phase) → with_code code_of phases (code_of p) ≡ Some p
unfolding phases
found_by_code Idle = refl
found_by_code Init = refl
found_by_code WaitForReset = refl
found_by_code Operation = refl
found_by_code WaitForAcknowledge = refl
found_by_code Safe = refl
found_by_code AcknowledgeLost = refl
found_by_code MonitoringError = refl
found_by_code ResetError2 = refl
found_by_code ResetError3 = refl
found_by_code WaitForOperation = refl

-- two states of the table with one code are one
pub same_phase : (p q : Phase) → code_of p ≡ code_of q → p ≡ q
same_phase = same_state code_of phases found_by_code

pub same_kept : (s s' : SafetyRequestState) → kept_of s ≡ kept_of s' → s ≡ s'
same_kept s s' e =
    let phase : s.phase ≡ s'.phase = same_phase s.phase s'.phase (ap (λ (k : Kept). k.code) e) in
    λ i. record { phase = phase i; since = (e i).timer; last_reset = (e i).last_reset }
