-- Two states of SF_EnableSwitch that keep the same are the same.
use Rattle.std.proofs.Common.{◌≡◌, List, [], ◌∷◌, refl, ap, Some}
use Rattle.ps_model.specs.Kept.{Kept}
use Rattle.ps_block.proofs.Codes.{with_code, same_state}
use Rattle.ps_operator.specs.declared.enable_switch.Phase.{Phase}
use Rattle.ps_operator.specs.declared.enable_switch.Phase.TheVariants.{Idle, BasicOperation, SafeOperation, Position1, Enabled, Position3, OperationError1, OperationError2, OperationError3, OperationError4, ResetError1, ResetError2}
use Rattle.ps_operator.specs.declared.enable_switch.EnableSwitchState.{EnableSwitchState}
use Rattle.ps_operator.specs.EnableSwitchStates.{code_of, kept_of}

phases : List Phase
phases = Idle ∷ BasicOperation ∷ SafeOperation ∷ Position1 ∷ Enabled ∷ Position3 ∷ OperationError1 ∷ OperationError2 ∷ OperationError3 ∷ OperationError4 ∷ ResetError1 ∷ ResetError2 ∷ []

found_by_code : (p : Phase) → with_code code_of phases (code_of p) ≡ Some p
unfolding phases
found_by_code Idle = refl
found_by_code BasicOperation = refl
found_by_code SafeOperation = refl
found_by_code Position1 = refl
found_by_code Enabled = refl
found_by_code Position3 = refl
found_by_code OperationError1 = refl
found_by_code OperationError2 = refl
found_by_code OperationError3 = refl
found_by_code OperationError4 = refl
found_by_code ResetError1 = refl
found_by_code ResetError2 = refl

pub same_kept : (s s' : EnableSwitchState) → kept_of s ≡ kept_of s' → s ≡ s'
same_kept s s' e =
    let phase : s.phase ≡ s'.phase = same_state code_of phases found_by_code s.phase s'.phase (ap (λ (k : Kept). k.code) e) in
    λ i. record { phase = phase i; since = (e i).timer; last_reset = (e i).last_reset }
