-- Kinds by their numbers.
use Rattle.std.proofs.Common.{◌≡◌, ◌≢◌, ℕ, List, [], ◌∷◌, Option, Some, None, refl, ap, sym, ◌∙◌}
use Rattle.std.specs.Prelude.{◌==◌, IfSome, IfNone}
use Rattle.std.specs.List.{find}
use Rattle.std.proofs.lemmas.Bool.{ne_eqb}
use Rattle.ps_model.specs.declared.kind.Kind.{Kind}
use Rattle.ps_model.specs.declared.kind.Kind.TheVariants.{Equivalent, Antivalent, EmergencyStop, Espe, ModeSelector, TwoHandTwo, TwoHandThree, GuardMonitoring, GuardLocking, EnableSwitch, SafetyRequest, OutControl, Edm}
use Rattle.ps_model.specs.Blocks.{block}
use Rattle.ps_machine.specs.Kinds.{kind_of, every_kind}

-- a kind is found by its number
pub kind_of-number : (kind : Kind) → kind_of (block kind).number ≡ Some kind
unfolding kind_of block
kind_of-number Equivalent = refl
kind_of-number Antivalent = refl
kind_of-number EmergencyStop = refl
kind_of-number Espe = refl
kind_of-number ModeSelector = refl
kind_of-number TwoHandTwo = refl
kind_of-number TwoHandThree = refl
kind_of-number GuardMonitoring = refl
kind_of-number GuardLocking = refl
kind_of-number EnableSwitch = refl
kind_of-number SafetyRequest = refl
kind_of-number OutControl = refl
kind_of-number Edm = refl

pub kind_of_number : (kind : Kind) (number : ℕ) → (block kind).number ≡ number → kind_of number ≡ Some kind
kind_of_number kind number e = ap kind_of (sym e) ∙ kind_of-number kind

none_found : (number : ℕ) → ((kind : Kind) → (block kind).number ≢ number) → (kinds : List Kind) → find (λ kind. (block kind).number == number) kinds ≡ None
none_found number none [] = refl
none_found number none (kind ∷ kinds) = rw (ne_eqb (block kind).number number (none kind)) (none_found number none kinds)

-- a number that no kind has
pub no_kind_of : (number : ℕ) → ((kind : Kind) → (block kind).number ≢ number) → kind_of number ≡ None
unfolding kind_of
no_kind_of number none = none_found number none every_kind

-- what a look for the kind with a number finds
pub found_is : (found : Option Kind) (number : ℕ) → IfSome found (λ kind. (block kind).number ≡ number) → IfNone found ((kind : Kind) → (block kind).number ≢ number) →
    found ≡ kind_of number
found_is (Some kind) number some none = sym (kind_of_number kind number some)
found_is None number some none = sym (no_kind_of number none)
