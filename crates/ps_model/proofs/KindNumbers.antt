-- Each kind has a number of its own, from 1 to 13.
use Rattle.std.proofs.Common.{◌≡◌, ◌≤◌, lit≤, refl, sym, ap, ◌∙◌, List, [], ◌∷◌}
use Rattle.std.specs.Prelude.{◌-◌, Some, slice_get}
use Rattle.ps_model.specs.declared.kind.Kind.{Kind}
use Rattle.ps_model.specs.declared.kind.Kind.TheVariants.{Equivalent, Antivalent, EmergencyStop, Espe, ModeSelector, TwoHandTwo, TwoHandThree, GuardMonitoring, GuardLocking, EnableSwitch, SafetyRequest, OutControl, Edm}
use Rattle.std.proofs.lemmas.Option.{same_Some}
use Rattle.ps_model.specs.Blocks.{block}

kinds : List Kind
kinds = Equivalent ∷ Antivalent ∷ EmergencyStop ∷ Espe ∷ ModeSelector ∷ TwoHandTwo ∷ TwoHandThree ∷ GuardMonitoring ∷ GuardLocking ∷ EnableSwitch ∷ SafetyRequest ∷ OutControl ∷ Edm ∷ []

pub number_at_least : (k : Kind) → 1 ≤ (block k).number
unfolding block
number_at_least Equivalent = lit≤ tt
number_at_least Antivalent = lit≤ tt
number_at_least EmergencyStop = lit≤ tt
number_at_least Espe = lit≤ tt
number_at_least ModeSelector = lit≤ tt
number_at_least TwoHandTwo = lit≤ tt
number_at_least TwoHandThree = lit≤ tt
number_at_least GuardMonitoring = lit≤ tt
number_at_least GuardLocking = lit≤ tt
number_at_least EnableSwitch = lit≤ tt
number_at_least SafetyRequest = lit≤ tt
number_at_least OutControl = lit≤ tt
number_at_least Edm = lit≤ tt

pub number_at_most : (k : Kind) → (block k).number ≤ 13
unfolding block
number_at_most Equivalent = lit≤ tt
number_at_most Antivalent = lit≤ tt
number_at_most EmergencyStop = lit≤ tt
number_at_most Espe = lit≤ tt
number_at_most ModeSelector = lit≤ tt
number_at_most TwoHandTwo = lit≤ tt
number_at_most TwoHandThree = lit≤ tt
number_at_most GuardMonitoring = lit≤ tt
number_at_most GuardLocking = lit≤ tt
number_at_most EnableSwitch = lit≤ tt
number_at_most SafetyRequest = lit≤ tt
number_at_most OutControl = lit≤ tt
number_at_most Edm = lit≤ tt

kind_at_number : (k : Kind) → slice_get kinds ((block k).number - 1) ≡ Some k
unfolding block kinds
kind_at_number Equivalent = refl
kind_at_number Antivalent = refl
kind_at_number EmergencyStop = refl
kind_at_number Espe = refl
kind_at_number ModeSelector = refl
kind_at_number TwoHandTwo = refl
kind_at_number TwoHandThree = refl
kind_at_number GuardMonitoring = refl
kind_at_number GuardLocking = refl
kind_at_number EnableSwitch = refl
kind_at_number SafetyRequest = refl
kind_at_number OutControl = refl
kind_at_number Edm = refl

pub same_number : (a b : Kind) → (block a).number ≡ (block b).number → a ≡ b
same_number a b h = same_Some a b (sym (kind_at_number a) ∙ ap (λ n. slice_get kinds (n - 1)) h ∙ kind_at_number b)
