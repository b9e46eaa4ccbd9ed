-- The rows of SF_OutControl decide as its table does.
use Rattle.std.proofs.Common.{◌≡◌, ℕ, Bool, true, refl, ◌∙◌, rules}
use Rattle.ps_model.specs.declared.kind.Kind.TheVariants.{OutControl}
use Rattle.ps_model.specs.Blocks.{next, block}
use Rattle.ps_model.specs.Kept.{Kept, seen}
use Rattle.ps_rows.specs.declared.out_control.TheConstants.{OUT_CONTROL}
use Rattle.ps_rows.specs.Names.{names}
use Rattle.ps_rows.specs.Decision.{RowsDecide}
use Rattle.ps_rows.proofs.Choices.{decides, of_states, decides_each, decision_same, TableAgrees}
use Rattle.ps_rows.proofs.Seeing.{seen_at, as_chosen, nowhere}

in_each_state : decides OUT_CONTROL OutControl as_chosen (seen_at 6 7 2 8 nowhere) 9 ≡ true
unfolding next block
in_each_state = refl

pub out_control_states : of_states OUT_CONTROL OutControl ≡ true
unfolding block
out_control_states = refl

table_agrees : (pins : ℕ → Bool) (elapsed : Bool) (k : Kept) →
    TableAgrees (block OutControl).rows (seen_at 6 7 2 8 nowhere (names OutControl pins elapsed k)) (seen OutControl pins elapsed k)
unfolding block
table_agrees pins elapsed k = search rules

pub out_control_decides : RowsDecide OutControl
out_control_decides q pins elapsed k =
    decides_each OUT_CONTROL OutControl as_chosen (seen_at 6 7 2 8 nowhere) 9 in_each_state out_control_states q (names OutControl pins elapsed k) refl
    ∙ decision_same OutControl q (seen_at 6 7 2 8 nowhere (names OutControl pins elapsed k)) (seen OutControl pins elapsed k) refl (table_agrees pins elapsed k)
