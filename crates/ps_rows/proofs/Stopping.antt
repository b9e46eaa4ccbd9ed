-- The rows of SF_EmergencyStop decide as its table does.
use Rattle.std.proofs.Common.{◌≡◌, ℕ, Bool, true, refl, ◌∙◌, rules}
use Rattle.ps_model.specs.declared.kind.Kind.TheVariants.{EmergencyStop}
use Rattle.ps_model.specs.Blocks.{next, block}
use Rattle.ps_model.specs.Kept.{Kept, seen}
use Rattle.ps_rows.specs.declared.stop.TheConstants.{STOP}
use Rattle.ps_rows.specs.Names.{names}
use Rattle.ps_rows.specs.Decision.{RowsDecide}
use Rattle.ps_rows.proofs.Choices.{decides, of_states, decides_each, decision_same, TableAgrees}
use Rattle.ps_rows.proofs.Seeing.{seen_at, as_chosen, nowhere}

in_each_state : decides STOP EmergencyStop as_chosen (seen_at 4 5 nowhere nowhere nowhere) 6 ≡ true
unfolding next block
in_each_state = refl

pub emergency_stop_states : of_states STOP EmergencyStop ≡ true
unfolding block
emergency_stop_states = refl

table_agrees : (pins : ℕ → Bool) (elapsed : Bool) (k : Kept) →
    TableAgrees (block EmergencyStop).rows (seen_at 4 5 nowhere nowhere nowhere (names EmergencyStop pins elapsed k)) (seen EmergencyStop pins elapsed k)
unfolding block
table_agrees pins elapsed k = search rules

pub emergency_stop_decides : RowsDecide EmergencyStop
emergency_stop_decides q pins elapsed k =
    decides_each STOP EmergencyStop as_chosen (seen_at 4 5 nowhere nowhere nowhere) 6 in_each_state emergency_stop_states q (names EmergencyStop pins elapsed k) refl
    ∙ decision_same EmergencyStop q (seen_at 4 5 nowhere nowhere nowhere (names EmergencyStop pins elapsed k)) (seen EmergencyStop pins elapsed k) refl (table_agrees pins elapsed k)
