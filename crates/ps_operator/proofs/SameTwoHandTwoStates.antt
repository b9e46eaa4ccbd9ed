-- Two states of SF_TwoHandControlTypeII that keep the same are the same.
use Rattle.std.proofs.Common.{◌≡◌, List, [], ◌∷◌, refl, ap, Some}
use Rattle.ps_model.specs.Kept.{Kept}
use Rattle.ps_block.proofs.Codes.{with_code, same_state}
use Rattle.ps_operator.specs.declared.two_hand.CommonPhase.{CommonPhase}
use Rattle.ps_operator.specs.declared.two_hand.CommonPhase.TheVariants.{Idle, Init, Released, Button1Actuated, Button2Actuated, Enabled, Button2Released, Button1Released, LockedOff, LockedOn, ErrorB1, ErrorB2, ErrorBoth}
use Rattle.ps_operator.specs.declared.two_hand_two.TwoHandTwoState.{TwoHandTwoState}
use Rattle.ps_operator.specs.TwoHandStates.{code_of}
use Rattle.ps_operator.specs.TwoHandTwoStates.{kept_of}

phases : List CommonPhase
phases = Idle ∷ Init ∷ Released ∷ Button1Actuated ∷ Button2Actuated ∷ Enabled ∷ Button2Released ∷ Button1Released ∷ LockedOff ∷ LockedOn ∷ ErrorB1 ∷ ErrorB2 ∷ ErrorBoth ∷ []

found_by_code : (p : CommonPhase) → with_code code_of phases (code_of p) ≡ Some p
unfolding phases
found_by_code Idle = refl
found_by_code Init = refl
found_by_code Released = refl
found_by_code Button1Actuated = refl
found_by_code Button2Actuated = refl
found_by_code Enabled = refl
found_by_code Button2Released = refl
found_by_code Button1Released = refl
found_by_code LockedOff = refl
found_by_code LockedOn = refl
found_by_code ErrorB1 = refl
found_by_code ErrorB2 = refl
found_by_code ErrorBoth = refl

pub same_kept : (s s' : TwoHandTwoState) → kept_of s ≡ kept_of s' → s ≡ s'
same_kept s s' e =
    let phase : s.phase ≡ s'.phase = same_state code_of phases found_by_code s.phase s'.phase (ap (λ (k : Kept). k.code) e) in
    λ i. record { phase = phase i; since = (e i).timer }
