-- The rows of SF_Equivalent decide as its table does.
use Rattle.std.proofs.Common.{◌≡◌, ℕ, Bool, true, refl, ◌∙◌, rules}
use Rattle.ps_model.specs.declared.kind.Kind.TheVariants.{Equivalent}
use Rattle.ps_model.specs.Blocks.{next, block}
use Rattle.ps_model.specs.Kept.{Kept, seen}
use Rattle.ps_rows.specs.declared.equivalent.TheConstants.{EQUIVALENT}
use Rattle.ps_rows.specs.Names.{names}
use Rattle.ps_rows.specs.Decision.{RowsDecide}
use Rattle.ps_rows.proofs.Choices.{decides, of_states, decides_each, decision_same, TableAgrees}
use Rattle.ps_rows.proofs.Seeing.{seen_at, as_chosen, nowhere}

in_each_state : decides EQUIVALENT Equivalent as_chosen (seen_at nowhere nowhere nowhere nowhere 3) 4 ≡ true
unfolding next block
in_each_state = refl

pub equivalent_states : of_states EQUIVALENT Equivalent ≡ true
unfolding block
equivalent_states = refl

table_agrees : (pins : ℕ → Bool) (elapsed : Bool) (k : Kept) →
    TableAgrees (block Equivalent).rows (seen_at nowhere nowhere nowhere nowhere 3 (names Equivalent pins elapsed k)) (seen Equivalent pins elapsed k)
unfolding block
table_agrees pins elapsed k = search rules

pub equivalent_decides : RowsDecide Equivalent
equivalent_decides q pins elapsed k =
    decides_each EQUIVALENT Equivalent as_chosen (seen_at nowhere nowhere nowhere nowhere 3) 4 in_each_state equivalent_states q (names Equivalent pins elapsed k) refl
    ∙ decision_same Equivalent q (seen_at nowhere nowhere nowhere nowhere 3 (names Equivalent pins elapsed k)) (seen Equivalent pins elapsed k) refl (table_agrees pins elapsed k)
