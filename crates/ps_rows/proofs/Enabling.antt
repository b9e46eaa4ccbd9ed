-- The rows of SF_EnableSwitch decide as its table does.
use Rattle.std.proofs.Common.{◌≡◌, ℕ, Bool, true, refl, ◌∙◌, rules}
use Rattle.ps_model.specs.declared.kind.Kind.TheVariants.{EnableSwitch}
use Rattle.ps_model.specs.Blocks.{next, block}
use Rattle.ps_model.specs.Kept.{Kept, seen}
use Rattle.ps_rows.specs.declared.enable_switch.TheConstants.{ENABLE_SWITCH}
use Rattle.ps_rows.specs.Names.{names}
use Rattle.ps_rows.specs.Decision.{RowsDecide}
use Rattle.ps_rows.proofs.Choices.{decides, of_states, decides_each, decision_same, TableAgrees}
use Rattle.ps_rows.proofs.Seeing.{seen_at, as_chosen, nowhere}

in_each_state : decides ENABLE_SWITCH EnableSwitch as_chosen (seen_at 5 6 nowhere nowhere nowhere) 7 ≡ true
unfolding next block
in_each_state = refl

pub enable_switch_states : of_states ENABLE_SWITCH EnableSwitch ≡ true
unfolding block
enable_switch_states = refl

table_agrees : (pins : ℕ → Bool) (elapsed : Bool) (k : Kept) →
    TableAgrees (block EnableSwitch).rows (seen_at 5 6 nowhere nowhere nowhere (names EnableSwitch pins elapsed k)) (seen EnableSwitch pins elapsed k)
unfolding block
table_agrees pins elapsed k = search rules

pub enable_switch_decides : RowsDecide EnableSwitch
enable_switch_decides q pins elapsed k =
    decides_each ENABLE_SWITCH EnableSwitch as_chosen (seen_at 5 6 nowhere nowhere nowhere) 7 in_each_state enable_switch_states q (names EnableSwitch pins elapsed k) refl
    ∙ decision_same EnableSwitch q (seen_at 5 6 nowhere nowhere nowhere (names EnableSwitch pins elapsed k)) (seen EnableSwitch pins elapsed k) refl (table_agrees pins elapsed k)
