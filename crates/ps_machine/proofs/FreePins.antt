-- SF_Antivalent alone has a pin that is TRUE where no call names it.
use Rattle.std.proofs.Common.{◌≡◌, ◌≢◌, ℕ, zero, suc, Bool, true, false, List, [], ◌∷◌, refl}
use Rattle.std.specs.Prelude.{not, slice_index_or}
use Rattle.std.specs.List.{list_all}
use Rattle.std.proofs.lemmas.Bool.{and_parts, false≢true}
use Rattle.ps_model.specs.declared.kind.Kind.{Kind}
use Rattle.ps_model.specs.declared.kind.Kind.TheVariants.{Equivalent, Antivalent, EmergencyStop, Espe, ModeSelector, TwoHandTwo, TwoHandThree, GuardMonitoring, GuardLocking, EnableSwitch, SafetyRequest, OutControl, Edm}
use Rattle.ps_model.specs.Blocks.{Pin, block}
use Rattle.ps_model.specs.Scanning.{pin_at, no_pin}

abbrev are_off : List Pin → Bool
are_off pins = list_all (λ p. not p.free) pins

off_is : (b : Bool) → not b ≡ true → b ≡ false
off_is true h = absurd (false≢true h)
off_is false h = refl

off_at : (pins : List Pin) (j : ℕ) → are_off pins ≡ true → (slice_index_or pins j no_pin).free ≡ false
off_at [] j h = refl
off_at (p ∷ pins) zero h = off_is p.free (and_parts (not p.free) (are_off pins) h).0
off_at (p ∷ pins) (suc j) h = off_at pins j (and_parts (not p.free) (are_off pins) h).1

all_off : (kind : Kind) → kind ≢ Antivalent → are_off (block kind).inputs ≡ true
unfolding block
all_off Equivalent h = refl
all_off Antivalent h = absurd (h refl)
all_off EmergencyStop h = refl
all_off Espe h = refl
all_off ModeSelector h = refl
all_off TwoHandTwo h = refl
all_off TwoHandThree h = refl
all_off GuardMonitoring h = refl
all_off GuardLocking h = refl
all_off EnableSwitch h = refl
all_off SafetyRequest h = refl
all_off OutControl h = refl
all_off Edm h = refl

-- the free value of a pin of another kind
pub free_is_off : (kind : Kind) (j : ℕ) → kind ≢ Antivalent → (pin_at kind j).free ≡ false
free_is_off kind j h = off_at (block kind).inputs j (all_off kind h)
