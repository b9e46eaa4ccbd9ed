-- The rows of SF_ModeSelector decide as its table does.
use Rattle.std.proofs.Common.{◌≡◌, ℕ, Bool, true, false, cond, List, refl, sym, ap, ◌∙◌, subst, arith, ◌||◌, ◌&&◌, not, inl, inr}
use Rattle.std.specs.Prelude.{◌==◌, nat_le, if◌then◌else◌}
use Rattle.std.proofs.Math.Bool.{or-false}
use Rattle.std.proofs.lemmas.Bool.{cases_eq, ne_eqb, le-leb}
use Rattle.ps_model.specs.declared.kind.Kind.TheVariants.{ModeSelector}
use Rattle.ps_model.specs.Table.{Conditions}
use Rattle.ps_model.specs.Blocks.{next, block, modes_on}
use Rattle.ps_model.specs.Kept.{Kept, seen}
use Rattle.ps_rows.specs.declared.modes.TheConstants.{MODES}
use Rattle.ps_rows.specs.Names.{names}
use Rattle.ps_rows.specs.Decision.{RowsDecide}
use Rattle.ps_rows.proofs.Choices.{decides, of_states, decides_each, decision_same, TableAgrees}
use Rattle.ps_rows.proofs.Seeing.{on, as_chosen}

-- The named conditions are Activate, no mode, one mode, exactly the latched one, S_Unlock, a mode may be set, Reset, the last
-- Reset and `elapsed`. Pins 0, 9, 11 and 12 are what the guards read; a mode may be set stands for AutoSetMode.
abbrev seen_by : List Bool → Conditions
seen_by bs = record {
  pin = λ j. if j == 0 then on bs 0 else if j == 9 then on bs 4 else if j == 11 then on bs 5 else on bs 6;
  edge = on bs 6 && not (on bs 7);
  static = on bs 6 && on bs 7;
  rise = false;
  elapsed = on bs 8;
  modes = if on bs 1 then 0 else if on bs 2 then 1 else 2;
  exact = on bs 3;
}

in_each_state : decides MODES ModeSelector as_chosen seen_by 9 ≡ true
unfolding next block
in_each_state = refl

pub mode_selector_states : of_states MODES ModeSelector ≡ true
unfolding block
mode_selector_states = refl

-- ---- None, one, and more modes.
none_of : (x y : Bool) → (cond x 0 (cond y 1 2) == 0) ≡ x
none_of true y = refl
none_of false true = refl
none_of false false = refl

one_of : (n : ℕ) → (cond (n == 0) 0 (cond (n == 1) 1 2) == 1) ≡ (n == 1)
one_of n =
    elim (cases_eq n 0) [
      | inl e ↦ subst (λ m. (cond (m == 0) 0 (cond (m == 1) 1 2) == 1) ≡ (m == 1)) (sym e) refl
      | inr some ↦ ap (λ b. cond b 0 (cond (n == 1) 1 2) == 1) (ne_eqb n 0 some) ∙ last (n == 1)
    ]
  where
    last : (y : Bool) → (cond y 1 2 == 1) ≡ y
    last true = refl
    last false = refl

more_of : (n : ℕ) → nat_le 2 (cond (n == 0) 0 (cond (n == 1) 1 2)) ≡ nat_le 2 n
more_of n =
    elim (cases_eq n 0) [
      | inl e ↦ subst (λ m. nat_le 2 (cond (m == 0) 0 (cond (m == 1) 1 2)) ≡ nat_le 2 m) (sym e) refl
      | inr some ↦ elim (cases_eq n 1) [
        | inl e ↦ subst (λ m. nat_le 2 (cond (m == 0) 0 (cond (m == 1) 1 2)) ≡ nat_le 2 m) (sym e) refl
        | inr many ↦
            ap (λ b. nat_le 2 (cond b 0 (cond (n == 1) 1 2))) (ne_eqb n 0 some)
            ∙ ap (λ b. nat_le 2 (cond b 1 2)) (ne_eqb n 1 many)
            ∙ sym (le-leb 2 n (omega arith))
      ]
    ]

table_agrees : (pins : ℕ → Bool) (elapsed : Bool) (k : Kept) →
    TableAgrees (block ModeSelector).rows (seen_by (names ModeSelector pins elapsed k)) (seen ModeSelector pins elapsed k)
unfolding block
table_agrees pins elapsed k =
    let n = modes_on pins in
    let none_is = none_of (n == 0) (n == 1) in
    let set = pins 11 || pins 10 && not k.last_auxiliary in (
      (ap not none_is, (more_of n, (ap (λ b. b && elapsed) none_is, (ap (λ b. b && (set || false)) (one_of n) ∙ ap (λ b. (n == 1) && b) (or-false set), tt)))),
      ((refl, (refl, (refl, tt))), ((refl, (refl, (refl, tt))), ((refl, (refl, (refl, tt))), ((refl, (refl, (refl, tt))), ((refl, (refl, tt)), ((refl, (refl, tt)), tt)))))),
    )

pub mode_selector_decides : RowsDecide ModeSelector
mode_selector_decides q pins elapsed k =
    decides_each MODES ModeSelector as_chosen seen_by 9 in_each_state mode_selector_states q (names ModeSelector pins elapsed k) refl
    ∙ decision_same ModeSelector q (seen_by (names ModeSelector pins elapsed k)) (seen ModeSelector pins elapsed k) refl (table_agrees pins elapsed k)
