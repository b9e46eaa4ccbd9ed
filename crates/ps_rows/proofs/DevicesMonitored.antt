-- The rows of SF_EDM decide as its table does.
use Rattle.std.proofs.Common.{◌≡◌, ℕ, Bool, true, refl, ◌∙◌, rules}
use Rattle.ps_model.specs.declared.kind.Kind.TheVariants.{Edm}
use Rattle.ps_model.specs.Blocks.{next, block}
use Rattle.ps_model.specs.Kept.{Kept, seen}
use Rattle.ps_rows.specs.declared.edm.TheConstants.{EDM}
use Rattle.ps_rows.specs.Names.{names}
use Rattle.ps_rows.specs.Decision.{RowsDecide}
use Rattle.ps_rows.proofs.Choices.{decides, of_states, decides_each, decision_same, TableAgrees}
use Rattle.ps_rows.proofs.Seeing.{seen_at, as_chosen, nowhere}

in_each_state : decides EDM Edm as_chosen (seen_at 5 6 nowhere nowhere 7) 8 ≡ true
unfolding next block
in_each_state = refl

pub edm_states : of_states EDM Edm ≡ true
unfolding block
edm_states = refl

table_agrees : (pins : ℕ → Bool) (elapsed : Bool) (k : Kept) →
    TableAgrees (block Edm).rows (seen_at 5 6 nowhere nowhere 7 (names Edm pins elapsed k)) (seen Edm pins elapsed k)
unfolding block
table_agrees pins elapsed k = search rules

pub edm_decides : RowsDecide Edm
edm_decides q pins elapsed k =
    decides_each EDM Edm as_chosen (seen_at 5 6 nowhere nowhere 7) 8 in_each_state edm_states q (names Edm pins elapsed k) refl
    ∙ decision_same Edm q (seen_at 5 6 nowhere nowhere 7 (names Edm pins elapsed k)) (seen Edm pins elapsed k) refl (table_agrees pins elapsed k)
