-- The outputs of a block: Ready, Error, and none in Idle.
use Rattle.std.proofs.Common.{◌≡◌, ℕ, zero, suc, Bool, true, false, List, [], ◌∷◌, refl, ap}
use Rattle.std.specs.Prelude.{not, ◌==◌, slice_index_or}
use Rattle.std.specs.List.{list_all}
use Rattle.std.proofs.lemmas.Bool.{cond-true, and_parts, false≢true}
use Rattle.ps_model.specs.declared.kind.Kind.{Kind}
use Rattle.ps_model.specs.declared.kind.Kind.TheVariants.{Equivalent, Antivalent, EmergencyStop, Espe, ModeSelector, TwoHandTwo, TwoHandThree, GuardMonitoring, GuardLocking, EnableSwitch, SafetyRequest, OutControl, Edm}
use Rattle.ps_model.specs.Blocks.{Block_state, block, next, moved, outs, error_in}
use Rattle.ps_model.specs.BlockLaws.{ready_of, error_of}

pub inactive_code : (kind : Kind) (limit : ℕ) (pins : ℕ → Bool) (dt : ℕ) (s : Block_state) → pins 0 ≡ false → (moved kind limit pins dt s).code ≡ 0
unfolding moved next
inactive_code kind limit pins dt s h = cond-true (not (pins 0)) 0 _ (ap not h)

all_off : (xs : List Bool) (j : ℕ) → list_all not xs ≡ true → slice_index_or xs j false ≡ false
all_off [] j h = refl
all_off (true ∷ xs) zero h = absurd (false≢true h)
all_off (false ∷ xs) zero h = refl
all_off (x ∷ xs) (suc j) h = all_off xs j (and_parts (not x) (list_all not xs) h).1

idle_off : (kind : Kind) (mode : ℕ) → list_all not (outs kind 0 mode) ≡ true
unfolding outs block
idle_off Equivalent mode = refl
idle_off Antivalent mode = refl
idle_off EmergencyStop mode = refl
idle_off Espe mode = refl
idle_off ModeSelector mode = refl
idle_off TwoHandTwo mode = refl
idle_off TwoHandThree mode = refl
idle_off GuardMonitoring mode = refl
idle_off GuardLocking mode = refl
idle_off EnableSwitch mode = refl
idle_off SafetyRequest mode = refl
idle_off OutControl mode = refl
idle_off Edm mode = refl

pub idle_outputs : (kind : Kind) (mode j : ℕ) → slice_index_or (outs kind 0 mode) j false ≡ false
idle_outputs kind mode j = all_off (outs kind 0 mode) j (idle_off kind mode)

pub ready_exactly : (kind : Kind) (q mode : ℕ) → ready_of kind (outs kind q mode) ≡ not (q == 0)
unfolding outs block
ready_exactly Equivalent q mode = refl
ready_exactly Antivalent q mode = refl
ready_exactly EmergencyStop q mode = refl
ready_exactly Espe q mode = refl
ready_exactly ModeSelector q mode = refl
ready_exactly TwoHandTwo q mode = refl
ready_exactly TwoHandThree q mode = refl
ready_exactly GuardMonitoring q mode = refl
ready_exactly GuardLocking q mode = refl
ready_exactly EnableSwitch q mode = refl
ready_exactly SafetyRequest q mode = refl
ready_exactly OutControl q mode = refl
ready_exactly Edm q mode = refl

pub error_exactly : (kind : Kind) (q mode : ℕ) → error_of kind (outs kind q mode) ≡ error_in q
unfolding outs block
error_exactly Equivalent q mode = refl
error_exactly Antivalent q mode = refl
error_exactly EmergencyStop q mode = refl
error_exactly Espe q mode = refl
error_exactly ModeSelector q mode = refl
error_exactly TwoHandTwo q mode = refl
error_exactly TwoHandThree q mode = refl
error_exactly GuardMonitoring q mode = refl
error_exactly GuardLocking q mode = refl
error_exactly EnableSwitch q mode = refl
error_exactly SafetyRequest q mode = refl
error_exactly OutControl q mode = refl
error_exactly Edm q mode = refl
