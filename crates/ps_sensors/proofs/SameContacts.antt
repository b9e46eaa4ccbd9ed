-- Two states of SF_Equivalent and SF_Antivalent that keep the same are the same.
use Rattle.std.proofs.Common.{◌≡◌, List, [], ◌∷◌, refl, ap, Some}
use Rattle.ps_model.specs.Kept.{Kept}
use Rattle.ps_block.proofs.Codes.{with_code, same_state}
use Rattle.ps_sensors.specs.declared.contacts.Phase.{Phase}
use Rattle.ps_sensors.specs.declared.contacts.Phase.TheVariants.{Idle, Init, WaitForB, WaitForA, Enabled, FromActiveWait, Error1, Error2, Error3}
use Rattle.ps_sensors.specs.declared.contacts.ContactsState.{ContactsState}
use Rattle.ps_sensors.specs.Contacts.{code_of, kept_of}

phases : List Phase
phases = Idle ∷ Init ∷ WaitForB ∷ WaitForA ∷ Enabled ∷ FromActiveWait ∷ Error1 ∷ Error2 ∷ Error3 ∷ []

found_by_code : (p : Phase) → with_code code_of phases (code_of p) ≡ Some p
unfolding phases
found_by_code Idle = refl
found_by_code Init = refl
found_by_code WaitForB = refl
found_by_code WaitForA = refl
found_by_code Enabled = refl
found_by_code FromActiveWait = refl
found_by_code Error1 = refl
found_by_code Error2 = refl
found_by_code Error3 = refl

pub same_kept : (s s' : ContactsState) → kept_of s ≡ kept_of s' → s ≡ s'
same_kept s s' e =
    let phase : s.phase ≡ s'.phase = same_state code_of phases found_by_code s.phase s'.phase (ap (λ (k : Kept). k.code) e) in
    λ i. record { phase = phase i; since = (e i).timer }
