-- The words of conditions, by computation for each kind.
use Rattle.std.proofs.Common.{◌≡◌, true, refl}
use Rattle.ps_model.specs.Blocks.{block}
use Rattle.ps_model.specs.declared.kind.Kind.{Kind}
use Rattle.ps_model.specs.declared.kind.Kind.TheVariants.{Equivalent, Antivalent, EmergencyStop, Espe, ModeSelector}
use Rattle.ps_model.specs.declared.kind.Kind.TheVariants.{TwoHandTwo, TwoHandThree, GuardMonitoring, GuardLocking}
use Rattle.ps_model.specs.declared.kind.Kind.TheVariants.{EnableSwitch, SafetyRequest, OutControl, Edm}
use Rattle.ps_ways.specs.Distinct.{are_asked, have_words_of_their_own}

-- no two have the same words
pub all_differ : (kind : Kind) → have_words_of_their_own kind ≡ true
unfolding block
all_differ Equivalent = refl
all_differ Antivalent = refl
all_differ EmergencyStop = refl
all_differ Espe = refl
all_differ ModeSelector = refl
all_differ TwoHandTwo = refl
all_differ TwoHandThree = refl
all_differ GuardMonitoring = refl
all_differ GuardLocking = refl
all_differ EnableSwitch = refl
all_differ SafetyRequest = refl
all_differ OutControl = refl
all_differ Edm = refl

-- what guards ask is among them
pub all_asked : (kind : Kind) → are_asked kind ≡ true
unfolding block
all_asked Equivalent = refl
all_asked Antivalent = refl
all_asked EmergencyStop = refl
all_asked Espe = refl
all_asked ModeSelector = refl
all_asked TwoHandTwo = refl
all_asked TwoHandThree = refl
all_asked GuardMonitoring = refl
all_asked GuardLocking = refl
all_asked EnableSwitch = refl
all_asked SafetyRequest = refl
all_asked OutControl = refl
all_asked Edm = refl
