-- The kinds by the numbers that stand for them in code.
use Rattle.std.specs.Prelude.{ℕ, ◌==◌, List, [], ◌∷◌, Option}
use Rattle.std.specs.List.{find}
use Rattle.ps_model.specs.declared.kind.Kind.{Kind}
use Rattle.ps_model.specs.declared.kind.Kind.TheVariants.{Equivalent, Antivalent, EmergencyStop, Espe, ModeSelector}
use Rattle.ps_model.specs.declared.kind.Kind.TheVariants.{TwoHandTwo, TwoHandThree, GuardMonitoring, GuardLocking}
use Rattle.ps_model.specs.declared.kind.Kind.TheVariants.{EnableSwitch, SafetyRequest, OutControl, Edm}
use Rattle.ps_model.specs.Blocks.{block}

-- the thirteen kinds
abbrev pub every_kind : List Kind
every_kind =
    Equivalent ∷ Antivalent ∷ EmergencyStop ∷ Espe ∷ ModeSelector ∷ TwoHandTwo ∷ TwoHandThree ∷ GuardMonitoring ∷ GuardLocking
    ∷ EnableSwitch ∷ SafetyRequest ∷ OutControl ∷ Edm ∷ []

-- the kind with a number, and none where no kind has it
unfoldable pub kind_of : ℕ → Option Kind
kind_of number = find (λ kind. (block kind).number == number) every_kind
