-- Two states of SF_GuardLocking that keep the same are the same.
use Rattle.std.proofs.Common.{◌≡◌, List, [], ◌∷◌, refl, ap, Some}
use Rattle.ps_model.specs.Kept.{Kept}
use Rattle.ps_block.proofs.Codes.{with_code, same_state}
use Rattle.ps_guards.specs.declared.guard_locking.Phase.{Phase}
use Rattle.ps_guards.specs.declared.guard_locking.Phase.TheVariants.{Idle, Init, Locked, WaitForReset, ClosedUnlocked, OpenUnlocked, WaitForOperator, SafetyReturn, ResetError1, ResetError2, ResetError3, SafetyLost}
use Rattle.ps_guards.specs.declared.guard_locking.GuardLockingState.{GuardLockingState}
use Rattle.ps_guards.specs.GuardLockingStates.{code_of, kept_of}

phases : List Phase
phases = Idle ∷ Init ∷ Locked ∷ WaitForReset ∷ ClosedUnlocked ∷ OpenUnlocked ∷ WaitForOperator ∷ SafetyReturn ∷ ResetError1 ∷ ResetError2 ∷ ResetError3 ∷ SafetyLost ∷ []

found_by_code : (p : Phase) → with_code code_of phases (code_of p) ≡ Some p
unfolding phases
found_by_code Idle = refl
found_by_code Init = refl
found_by_code Locked = refl
found_by_code WaitForReset = refl
found_by_code ClosedUnlocked = refl
found_by_code OpenUnlocked = refl
found_by_code WaitForOperator = refl
found_by_code SafetyReturn = refl
found_by_code ResetError1 = refl
found_by_code ResetError2 = refl
found_by_code ResetError3 = refl
found_by_code SafetyLost = refl

-- two states of the table with one code are one
pub same_phase : (p q : Phase) → code_of p ≡ code_of q → p ≡ q
same_phase = same_state code_of phases found_by_code

pub same_kept : (s s' : GuardLockingState) → kept_of s ≡ kept_of s' → s ≡ s'
same_kept s s' e =
    let phase : s.phase ≡ s'.phase = same_phase s.phase s'.phase (ap (λ (k : Kept). k.code) e) in
    λ i. record { phase = phase i; since = (e i).timer; last_reset = (e i).last_reset }
