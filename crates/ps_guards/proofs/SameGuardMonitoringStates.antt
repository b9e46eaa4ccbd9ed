-- Two states of SF_GuardMonitoring that keep the same are the same.
use Rattle.std.proofs.Common.{◌≡◌, List, [], ◌∷◌, refl, ap, Some}
use Rattle.ps_model.specs.Kept.{Kept}
use Rattle.ps_block.proofs.Codes.{with_code, same_state}
use Rattle.ps_guards.specs.declared.guard_monitoring.Phase.{Phase}
use Rattle.ps_guards.specs.declared.guard_monitoring.Phase.TheVariants.{Idle, Init, OpenGuardRequest, GuardOpened, WaitForSwitch2, WaitForSwitch1, GuardClosed, WaitForReset, Enabled, ResetError, DiscrepancyError1, DiscrepancyError2}
use Rattle.ps_guards.specs.declared.guard_monitoring.GuardMonitoringState.{GuardMonitoringState}
use Rattle.ps_guards.specs.GuardMonitoringStates.{code_of, kept_of}

phases : List Phase
phases = Idle ∷ Init ∷ OpenGuardRequest ∷ GuardOpened ∷ WaitForSwitch2 ∷ WaitForSwitch1 ∷ GuardClosed ∷ WaitForReset ∷ Enabled ∷ ResetError ∷ DiscrepancyError1 ∷ DiscrepancyError2 ∷ []

found_by_code : (p : Phase) → with_code code_of phases (code_of p) ≡ Some p
unfolding phases
found_by_code Idle = refl
found_by_code Init = refl
found_by_code OpenGuardRequest = refl
found_by_code GuardOpened = refl
found_by_code WaitForSwitch2 = refl
found_by_code WaitForSwitch1 = refl
found_by_code GuardClosed = refl
found_by_code WaitForReset = refl
found_by_code Enabled = refl
found_by_code ResetError = refl
found_by_code DiscrepancyError1 = refl
found_by_code DiscrepancyError2 = refl

-- two states of the table with one code are one
pub same_phase : (p q : Phase) → code_of p ≡ code_of q → p ≡ q
same_phase = same_state code_of phases found_by_code

pub same_kept : (s s' : GuardMonitoringState) → kept_of s ≡ kept_of s' → s ≡ s'
same_kept s s' e =
    let phase : s.phase ≡ s'.phase = same_phase s.phase s'.phase (ap (λ (k : Kept). k.code) e) in
    λ i. record { phase = phase i; since = (e i).timer; last_reset = (e i).last_reset }
