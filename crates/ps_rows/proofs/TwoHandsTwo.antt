-- The rows of SF_TwoHandControlTypeII decide as its table does.
use Rattle.std.proofs.Common.{◌≡◌, ℕ, Bool, true, refl, ◌∙◌, rules}
use Rattle.ps_model.specs.declared.kind.Kind.TheVariants.{TwoHandTwo}
use Rattle.ps_model.specs.Blocks.{next, block}
use Rattle.ps_model.specs.Kept.{Kept, seen}
use Rattle.ps_rows.specs.declared.two_hand_two.TheConstants.{TWO_HAND_TWO}
use Rattle.ps_rows.specs.Names.{names}
use Rattle.ps_rows.specs.Decision.{RowsDecide}
use Rattle.ps_rows.proofs.Choices.{decides, of_states, decides_each, decision_same, TableAgrees}
use Rattle.ps_rows.proofs.Seeing.{seen_at, as_chosen, nowhere}

in_each_state : decides TWO_HAND_TWO TwoHandTwo as_chosen (seen_at nowhere nowhere nowhere nowhere nowhere) 3 ≡ true
unfolding next block
in_each_state = refl

pub two_hand_two_states : of_states TWO_HAND_TWO TwoHandTwo ≡ true
unfolding block
two_hand_two_states = refl

table_agrees : (pins : ℕ → Bool) (elapsed : Bool) (k : Kept) →
    TableAgrees (block TwoHandTwo).rows (seen_at nowhere nowhere nowhere nowhere nowhere (names TwoHandTwo pins elapsed k)) (seen TwoHandTwo pins elapsed k)
unfolding block
table_agrees pins elapsed k = search rules

pub two_hand_two_decides : RowsDecide TwoHandTwo
two_hand_two_decides q pins elapsed k =
    decides_each TWO_HAND_TWO TwoHandTwo as_chosen (seen_at nowhere nowhere nowhere nowhere nowhere) 3 in_each_state two_hand_two_states q (names TwoHandTwo pins elapsed k) refl
    ∙ decision_same TwoHandTwo q (seen_at nowhere nowhere nowhere nowhere nowhere (names TwoHandTwo pins elapsed k)) (seen TwoHandTwo pins elapsed k) refl (table_agrees pins elapsed k)
