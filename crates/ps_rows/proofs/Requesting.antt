-- The rows of SF_SafetyRequest decide as its table does.
use Rattle.std.proofs.Common.{◌≡◌, ℕ, Bool, true, refl, ◌∙◌, rules}
use Rattle.ps_model.specs.declared.kind.Kind.TheVariants.{SafetyRequest}
use Rattle.ps_model.specs.Blocks.{next, block}
use Rattle.ps_model.specs.Kept.{Kept, seen}
use Rattle.ps_rows.specs.declared.safety_request.TheConstants.{SAFETY_REQUEST}
use Rattle.ps_rows.specs.Names.{names}
use Rattle.ps_rows.specs.Decision.{RowsDecide}
use Rattle.ps_rows.proofs.Choices.{decides, of_states, decides_each, decision_same, TableAgrees}
use Rattle.ps_rows.proofs.Seeing.{seen_at, as_chosen, nowhere}

in_each_state : decides SAFETY_REQUEST SafetyRequest as_chosen (seen_at 3 4 nowhere nowhere 5) 6 ≡ true
unfolding next block
in_each_state = refl

pub safety_request_states : of_states SAFETY_REQUEST SafetyRequest ≡ true
unfolding block
safety_request_states = refl

table_agrees : (pins : ℕ → Bool) (elapsed : Bool) (k : Kept) →
    TableAgrees (block SafetyRequest).rows (seen_at 3 4 nowhere nowhere 5 (names SafetyRequest pins elapsed k)) (seen SafetyRequest pins elapsed k)
unfolding block
table_agrees pins elapsed k = search rules

pub safety_request_decides : RowsDecide SafetyRequest
safety_request_decides q pins elapsed k =
    decides_each SAFETY_REQUEST SafetyRequest as_chosen (seen_at 3 4 nowhere nowhere 5) 6 in_each_state safety_request_states q (names SafetyRequest pins elapsed k) refl
    ∙ decision_same SafetyRequest q (seen_at 3 4 nowhere nowhere 5 (names SafetyRequest pins elapsed k)) (seen SafetyRequest pins elapsed k) refl (table_agrees pins elapsed k)
