-- The rows of SF_GuardMonitoring decide as its table does.
use Rattle.std.proofs.Common.{◌≡◌, ℕ, Bool, true, refl, ◌∙◌, rules}
use Rattle.ps_model.specs.declared.kind.Kind.TheVariants.{GuardMonitoring}
use Rattle.ps_model.specs.Blocks.{next, block}
use Rattle.ps_model.specs.Kept.{Kept, seen}
use Rattle.ps_rows.specs.declared.guard_monitoring.TheConstants.{GUARD_MONITORING}
use Rattle.ps_rows.specs.Names.{names}
use Rattle.ps_rows.specs.Decision.{RowsDecide}
use Rattle.ps_rows.proofs.Choices.{decides, of_states, decides_each, decision_same, TableAgrees}
use Rattle.ps_rows.proofs.Seeing.{seen_at, as_chosen, nowhere}

in_each_state : decides GUARD_MONITORING GuardMonitoring as_chosen (seen_at 5 6 nowhere nowhere 7) 8 ≡ true
unfolding next block
in_each_state = refl

pub guard_monitoring_states : of_states GUARD_MONITORING GuardMonitoring ≡ true
unfolding block
guard_monitoring_states = refl

table_agrees : (pins : ℕ → Bool) (elapsed : Bool) (k : Kept) →
    TableAgrees (block GuardMonitoring).rows (seen_at 5 6 nowhere nowhere 7 (names GuardMonitoring pins elapsed k)) (seen GuardMonitoring pins elapsed k)
unfolding block
table_agrees pins elapsed k = search rules

pub guard_monitoring_decides : RowsDecide GuardMonitoring
guard_monitoring_decides q pins elapsed k =
    decides_each GUARD_MONITORING GuardMonitoring as_chosen (seen_at 5 6 nowhere nowhere 7) 8 in_each_state guard_monitoring_states q (names GuardMonitoring pins elapsed k) refl
    ∙ decision_same GuardMonitoring q (seen_at 5 6 nowhere nowhere 7 (names GuardMonitoring pins elapsed k)) (seen GuardMonitoring pins elapsed k) refl (table_agrees pins elapsed k)
