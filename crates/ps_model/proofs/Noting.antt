-- Noting the first step of each number.
use Rattle.std.proofs.Common.{◌≡◌, ℕ, Bool, true, false, cond, List, [], ◌∷◌, ◌++◌, length, Option, Some, None, refl, sym, ap, ◌∙◌}
use Rattle.std.specs.Prelude.{position}
use Rattle.std.specs.Option.{option_or}
use Rattle.ps_model.specs.Action.{Action}
use Rattle.ps_model.specs.FirstSteps.{step_noted, with_step, NotesFirst}
use Rattle.ps_model.proofs.Positions.{position_more}

with_step_is : (has : Bool) (place : ℕ) (first : Option ℕ) → with_step has place first ≡ option_or first (cond has (Some place) None)
with_step_is true place first = refl
with_step_is false place None = refl
with_step_is false place (Some k) = refl

-- where the last step is noted too, the first of all steps are noted
pub notes_one_more : (has : ℕ → Action → Bool) (steps : List Action) (a : Action) (place : ℕ) (before after : List (Option ℕ)) → place ≡ length steps →
    NotesFirst has steps before → ((n : ℕ) → step_noted after n ≡ with_step (has n a) place (step_noted before n)) → NotesFirst has (steps ++ a ∷ []) after
notes_one_more has steps a place before after last notes more = λ n.
    more n ∙ with_step_is (has n a) place (step_noted before n)
    ∙ ap (λ o. option_or o (cond (has n a) (Some place) None)) (notes n)
    ∙ ap (λ k. option_or (position (has n) steps) (cond (has n a) (Some k) None)) last
    ∙ sym (position_more (has n) steps a)

pub notes_kept : (has : ℕ → Action → Bool) (steps : List Action) (before after : List (Option ℕ)) →
    NotesFirst has steps before → ((n : ℕ) → step_noted after n ≡ step_noted before n) → NotesFirst has steps after
notes_kept has steps before after notes kept = λ n. kept n ∙ notes n
