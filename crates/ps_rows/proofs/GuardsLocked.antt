-- The rows of SF_GuardLocking decide as its table does.
use Rattle.std.proofs.Common.{◌≡◌, ℕ, Bool, true, refl, ◌∙◌, rules}
use Rattle.ps_model.specs.declared.kind.Kind.TheVariants.{GuardLocking}
use Rattle.ps_model.specs.Blocks.{next, block}
use Rattle.ps_model.specs.Kept.{Kept, seen}
use Rattle.ps_rows.specs.declared.guard_locking.TheConstants.{GUARD_LOCKING}
use Rattle.ps_rows.specs.Names.{names}
use Rattle.ps_rows.specs.Decision.{RowsDecide}
use Rattle.ps_rows.proofs.Choices.{decides, of_states, decides_each, decision_same, TableAgrees}
use Rattle.ps_rows.proofs.Seeing.{seen_at, as_chosen, nowhere}

in_each_state : decides GUARD_LOCKING GuardLocking as_chosen (seen_at 7 8 nowhere nowhere nowhere) 9 ≡ true
unfolding next block
in_each_state = refl

pub guard_locking_states : of_states GUARD_LOCKING GuardLocking ≡ true
unfolding block
guard_locking_states = refl

table_agrees : (pins : ℕ → Bool) (elapsed : Bool) (k : Kept) →
    TableAgrees (block GuardLocking).rows (seen_at 7 8 nowhere nowhere nowhere (names GuardLocking pins elapsed k)) (seen GuardLocking pins elapsed k)
unfolding block
table_agrees pins elapsed k = search rules

pub guard_locking_decides : RowsDecide GuardLocking
guard_locking_decides q pins elapsed k =
    decides_each GUARD_LOCKING GuardLocking as_chosen (seen_at 7 8 nowhere nowhere nowhere) 9 in_each_state guard_locking_states q (names GuardLocking pins elapsed k) refl
    ∙ decision_same GuardLocking q (seen_at 7 8 nowhere nowhere nowhere (names GuardLocking pins elapsed k)) (seen GuardLocking pins elapsed k) refl (table_agrees pins elapsed k)
