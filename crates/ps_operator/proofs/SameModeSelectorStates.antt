-- Two states of SF_ModeSelector that keep the same are the same.
use Rattle.std.proofs.Common.{◌≡◌, ℕ, List, [], ◌∷◌, refl, ap, Some}
use Rattle.std.specs.Prelude.{◌+◌, ◌*◌}
use Rattle.ps_model.specs.Kept.{Kept}
use Rattle.ps_block.proofs.Codes.{with_code, same_state}
use Rattle.ps_operator.specs.declared.mode_selector.Mode.TheVariants.{Mode0, Mode1, Mode2, Mode3, Mode4, Mode5, Mode6, Mode7}
use Rattle.ps_operator.specs.declared.mode_selector.Phase.{Phase}
use Rattle.ps_operator.specs.declared.mode_selector.Phase.TheVariants.{Idle, ModeChanged, Selected, Locked, ShortCircuit, OpenCircuit, ResetError1, ResetError2}
use Rattle.ps_operator.specs.declared.mode_selector.ModeSelectorState.{ModeSelectorState}
use Rattle.ps_operator.specs.ModeSelectorStates.{code_of, mode_of, kept_of}

phases : List Phase
phases = Idle ∷ ModeChanged ∷ (Selected Mode0) ∷ (Selected Mode1) ∷ (Selected Mode2) ∷ (Selected Mode3) ∷ (Selected Mode4) ∷ (Selected Mode5) ∷ (Selected Mode6) ∷ (Selected Mode7) ∷ (Locked Mode0) ∷ (Locked Mode1) ∷ (Locked Mode2) ∷ (Locked Mode3) ∷ (Locked Mode4) ∷ (Locked Mode5) ∷ (Locked Mode6) ∷ (Locked Mode7) ∷ ShortCircuit ∷ OpenCircuit ∷ ResetError1 ∷ ResetError2 ∷ []

-- Code and mode together.
key : Phase → ℕ
key p = code_of p * 8 + mode_of p

found_by_code : (p : Phase) → with_code key phases (key p) ≡ Some p
unfolding phases key
found_by_code Idle = refl
found_by_code ModeChanged = refl
found_by_code (Selected Mode0) = refl
found_by_code (Selected Mode1) = refl
found_by_code (Selected Mode2) = refl
found_by_code (Selected Mode3) = refl
found_by_code (Selected Mode4) = refl
found_by_code (Selected Mode5) = refl
found_by_code (Selected Mode6) = refl
found_by_code (Selected Mode7) = refl
found_by_code (Locked Mode0) = refl
found_by_code (Locked Mode1) = refl
found_by_code (Locked Mode2) = refl
found_by_code (Locked Mode3) = refl
found_by_code (Locked Mode4) = refl
found_by_code (Locked Mode5) = refl
found_by_code (Locked Mode6) = refl
found_by_code (Locked Mode7) = refl
found_by_code ShortCircuit = refl
found_by_code OpenCircuit = refl
found_by_code ResetError1 = refl
found_by_code ResetError2 = refl

pub same_kept : (s s' : ModeSelectorState) → kept_of s ≡ kept_of s' → s ≡ s'
unfolding key
same_kept s s' e =
    let phase : s.phase ≡ s'.phase = same_state key phases found_by_code s.phase s'.phase (ap (λ (k : Kept). k.code * 8 + k.mode) e) in
    λ i. record { phase = phase i; since = (e i).timer; last_reset = (e i).last_reset; last_set_mode = (e i).last_auxiliary }
