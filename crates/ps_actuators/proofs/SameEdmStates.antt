-- Two states of SF_EDM that keep the same are the same.
use Rattle.std.proofs.Common.{◌≡◌, List, [], ◌∷◌, refl, ap, Some}
use Rattle.ps_model.specs.Kept.{Kept}
use Rattle.ps_block.proofs.Codes.{with_code, same_state}
use Rattle.ps_actuators.specs.declared.monitoring.Phase.{Phase}
use Rattle.ps_actuators.specs.declared.monitoring.Phase.TheVariants.{Idle, Init, OutputDisabled, Enabled, ResetError, EdmError11, ResetError11, EdmError12, ResetError12, EdmError13, ResetError13, EdmError21, ResetError21, EdmError22, ResetError22, EdmError23, ResetError23, EdmError31, ResetError31, EdmError32, ResetError32, EdmError33, ResetError33}
use Rattle.ps_actuators.specs.declared.monitoring.EdmState.{EdmState}
use Rattle.ps_actuators.specs.EdmStates.{code_of, kept_of}

phases : List Phase
phases = Idle ∷ Init ∷ OutputDisabled ∷ Enabled ∷ ResetError ∷ EdmError11 ∷ ResetError11 ∷ EdmError12 ∷ ResetError12 ∷ EdmError13 ∷ ResetError13 ∷ EdmError21 ∷ ResetError21 ∷ EdmError22 ∷ ResetError22 ∷ EdmError23 ∷ ResetError23 ∷ EdmError31 ∷ ResetError31 ∷ EdmError32 ∷ ResetError32 ∷ EdmError33 ∷ ResetError33 ∷ []

found_by_code : (p : Phase) → with_code code_of phases (code_of p) ≡ Some p
unfolding phases
found_by_code Idle = refl
found_by_code Init = refl
found_by_code OutputDisabled = refl
found_by_code Enabled = refl
found_by_code ResetError = refl
found_by_code EdmError11 = refl
found_by_code ResetError11 = refl
found_by_code EdmError12 = refl
found_by_code ResetError12 = refl
found_by_code EdmError13 = refl
found_by_code ResetError13 = refl
found_by_code EdmError21 = refl
found_by_code ResetError21 = refl
found_by_code EdmError22 = refl
found_by_code ResetError22 = refl
found_by_code EdmError23 = refl
found_by_code ResetError23 = refl
found_by_code EdmError31 = refl
found_by_code ResetError31 = refl
found_by_code EdmError32 = refl
found_by_code ResetError32 = refl
found_by_code EdmError33 = refl
found_by_code ResetError33 = refl

-- two states of the table with one code are one
pub same_phase : (p q : Phase) → code_of p ≡ code_of q → p ≡ q
same_phase = same_state code_of phases found_by_code

pub same_kept : (s s' : EdmState) → kept_of s ≡ kept_of s' → s ≡ s'
same_kept s s' e =
    let phase : s.phase ≡ s'.phase = same_phase s.phase s'.phase (ap (λ (k : Kept). k.code) e) in
    λ i. record { phase = phase i; since = (e i).timer; last_reset = (e i).last_reset }
