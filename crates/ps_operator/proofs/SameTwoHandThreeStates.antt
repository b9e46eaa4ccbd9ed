-- Two states of SF_TwoHandControlTypeIII that keep the same are the same.
use Rattle.std.proofs.Common.{◌≡◌, List, [], ◌∷◌, refl, ap, Some}
use Rattle.ps_model.specs.Kept.{Kept}
use Rattle.ps_block.proofs.Codes.{with_code, same_state}
use Rattle.ps_operator.specs.declared.two_hand.CommonPhase.TheVariants.{Idle, Init, Released, Button1Actuated, Button2Actuated, Enabled, Button2Released, Button1Released, LockedOff, LockedOn, ErrorB1, ErrorB2, ErrorBoth}
use Rattle.ps_operator.specs.declared.two_hand_three.Phase.{Phase}
use Rattle.ps_operator.specs.declared.two_hand_three.Phase.TheVariants.{Common, TimeError1, TimeError2, TimeErrorBoth}
use Rattle.ps_operator.specs.declared.two_hand_three.TwoHandThreeState.{TwoHandThreeState}
use Rattle.ps_operator.specs.TwoHandThreeStates.{code_of, kept_of}

phases : List Phase
phases = Common Idle ∷ Common Init ∷ Common Released ∷ Common Button1Actuated ∷ Common Button2Actuated ∷ Common Enabled ∷ Common Button2Released ∷ Common Button1Released ∷ Common LockedOff ∷ Common LockedOn ∷ Common ErrorB1 ∷ Common ErrorB2 ∷ Common ErrorBoth ∷ TimeError1 ∷ TimeError2 ∷ TimeErrorBoth ∷ []

found_by_code : (p : Phase) → with_code code_of phases (code_of p) ≡ Some p
unfolding phases
found_by_code (Common Idle) = refl
found_by_code (Common Init) = refl
found_by_code (Common Released) = refl
found_by_code (Common Button1Actuated) = refl
found_by_code (Common Button2Actuated) = refl
found_by_code (Common Enabled) = refl
found_by_code (Common Button2Released) = refl
found_by_code (Common Button1Released) = refl
found_by_code (Common LockedOff) = refl
found_by_code (Common LockedOn) = refl
found_by_code (Common ErrorB1) = refl
found_by_code (Common ErrorB2) = refl
found_by_code (Common ErrorBoth) = refl
found_by_code TimeError1 = refl
found_by_code TimeError2 = refl
found_by_code TimeErrorBoth = refl

pub same_kept : (s s' : TwoHandThreeState) → kept_of s ≡ kept_of s' → s ≡ s'
same_kept s s' e =
    let phase : s.phase ≡ s'.phase = same_state code_of phases found_by_code s.phase s'.phase (ap (λ (k : Kept). k.code) e) in
    λ i. record { phase = phase i; since = (e i).timer }
