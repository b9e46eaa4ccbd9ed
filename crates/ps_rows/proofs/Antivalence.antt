-- The rows of SF_Equivalent decide as the table of SF_Antivalent does, over the conditions of that kind.
use Rattle.std.proofs.Common.{◌≡◌, ℕ, Bool, true, List, [], ◌∷◌, not, refl, ◌∙◌, rules}
use Rattle.ps_model.specs.declared.kind.Kind.TheVariants.{Antivalent}
use Rattle.ps_model.specs.Blocks.{next, block}
use Rattle.ps_model.specs.Kept.{Kept, seen}
use Rattle.ps_rows.specs.declared.equivalent.TheConstants.{EQUIVALENT}
use Rattle.ps_rows.specs.Decision.{RowsDecide}
use Rattle.ps_rows.proofs.Choices.{decides, of_states, decides_each, decision_same, TableAgrees}
use Rattle.ps_rows.proofs.Seeing.{on, seen_at, nowhere}

-- the third pin negated
abbrev named : List Bool → List Bool
named bs = on bs 0 ∷ on bs 1 ∷ not (on bs 2) ∷ on bs 3 ∷ []

-- the pins and `elapsed`
abbrev chosen : (ℕ → Bool) → Bool → List Bool
chosen pins elapsed = pins 0 ∷ pins 1 ∷ pins 2 ∷ elapsed ∷ []

in_each_state : decides EQUIVALENT Antivalent named (seen_at nowhere nowhere nowhere nowhere 3) 4 ≡ true
unfolding next block
in_each_state = refl

pub antivalent_states : of_states EQUIVALENT Antivalent ≡ true
unfolding block
antivalent_states = refl

table_agrees : (pins : ℕ → Bool) (elapsed : Bool) (k : Kept) →
    TableAgrees (block Antivalent).rows (seen_at nowhere nowhere nowhere nowhere 3 (chosen pins elapsed)) (seen Antivalent pins elapsed k)
unfolding block
table_agrees pins elapsed k = search rules

pub antivalent_decides : RowsDecide Antivalent
antivalent_decides q pins elapsed k =
    decides_each EQUIVALENT Antivalent named (seen_at nowhere nowhere nowhere nowhere 3) 4 in_each_state antivalent_states q (chosen pins elapsed) refl
    ∙ decision_same Antivalent q (seen_at nowhere nowhere nowhere nowhere 3 (chosen pins elapsed)) (seen Antivalent pins elapsed k) refl (table_agrees pins elapsed k)
