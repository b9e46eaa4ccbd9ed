-- A safe value is TRUE only where its skeleton is.
use Rattle.std.proofs.Common.{◌≡◌, ℕ, suc, zero, ◌≤◌, Bool, true, false, cond, List, length, Some, sym, ap, ◌∙◌, refl, ⊎_elim, arith}
use Rattle.std.specs.Prelude.{slice_get, nat_lt, ◌==◌}
use Rattle.std.proofs.lemmas.Bool.{cases_Bool, or_cases, or_left, or_right, or_from, and_parts, and_from, cond-true, cond-false, eqb-true}
use Rattle.ps_model.specs.Formula.{Formula, Formulas, signal, all_of, any_of, no_operand, operand, value, all_true, any_true}
use Rattle.ps_model.specs.Action.{Action, assigns, calls}
use Rattle.ps_model.specs.Network.{Network, input_count, drives, is_new}
use Rattle.ps_model.specs.Scanning.{State, Solves, signal_in, read_at}
use Rattle.ps_model.specs.Typing.{Accepted, safe, is_safe_signal, each_safe}
use Rattle.ps_model.specs.Skeleton.{Skeleton, now, before, more, skeleton, skeleton_over, safe_skeletons, all_skeletons, after_step, leaf_at, holds, all_hold, some_hold}
use Rattle.ps_model.proofs.Once.{element_at}
use Rattle.ps_model.proofs.OneSolution.{new_after_step, not_more}

module _ (net : Network) (old new : State) (v : ℕ → Bool) (leaves : ℕ → Skeleton)
    (leaf : (s : ℕ) → is_safe_signal net s ≡ true → v s ≡ true → holds old new (leaves s) ≡ true) where
  mutual
    pub over_leaves : (e : Formula) → safe net e ≡ true → value v e ≡ true → holds old new (skeleton_over net leaves e) ≡ true
    over_leaves (signal s) is h = leaf s is h
    over_leaves (all_of es) is h = over_all es h
    over_leaves (any_of es) is h = over_some es is h

    over_all : (es : Formulas) → all_true v es ≡ true → all_hold old new (safe_skeletons net leaves es) ≡ true
    over_all no_operand h = refl
    over_all (operand e es) h =
        let both = and_parts (value v e) (all_true v es) h in
        ⊎_elim
        (λ is. ap (all_hold old new) (cond-true (safe net e) (more (skeleton_over net leaves e) (safe_skeletons net leaves es)) (safe_skeletons net leaves es) is)
        ∙ and_from (holds old new (skeleton_over net leaves e)) (all_hold old new (safe_skeletons net leaves es)) (over_leaves e is both.0) (over_all es both.1))
        (λ plain. ap (all_hold old new) (cond-false (safe net e) (more (skeleton_over net leaves e) (safe_skeletons net leaves es)) (safe_skeletons net leaves es) plain)
        ∙ over_all es both.1)
        (cases_Bool (safe net e))

    over_some : (es : Formulas) → each_safe net es ≡ true → any_true v es ≡ true → some_hold old new (all_skeletons net leaves es) ≡ true
    over_some no_operand is h = h
    over_some (operand e es) is h =
        let both = and_parts (safe net e) (each_safe net es) is in
        ⊎_elim
        (λ y. or_left (holds old new (skeleton_over net leaves e)) (some_hold old new (all_skeletons net leaves es)) (over_leaves e both.0 y))
        (λ y. or_right (holds old new (skeleton_over net leaves e)) (some_hold old new (all_skeletons net leaves es)) (over_some es both.1 y))
        (or_cases (value v e) (any_true v es) h)

module _ (net : Network) (accepted : Accepted net) (old : State) (ins : List Bool) (dt : ℕ) (new : State) (solves : Solves net old ins dt new) where
  driven_now : (k : ℕ) (a : Action) → slice_get net.steps k ≡ Some a → (s : ℕ) → drives net s a ≡ true → read_at net old new (suc k) s ≡ signal_in new s
  driven_now k a at s h =
      cond-true (is_new net (suc k) s) (signal_in new s) (signal_in old s) (new_after_step net k s a at ∙ or_right (is_new net k s) (drives net s a) h)

  undriven_as_before : (k : ℕ) (a : Action) → slice_get net.steps k ≡ Some a → (s : ℕ) → drives net s a ≡ false →
      read_at net old new (suc k) s ≡ read_at net old new k s
  undriven_as_before k a at s h =
      ap (λ b. cond b (signal_in new s) (signal_in old s)) (new_after_step net k s a at ∙ not_more (is_new net k s) (drives net s a) h)

  -- one step
  step_holds : (k : ℕ) (a : Action) → slice_get net.steps k ≡ Some a → (s : ℕ) → is_safe_signal net s ≡ true →
      ((x : ℕ) → is_safe_signal net x ≡ true → read_at net old new k x ≡ true → holds old new (leaf_at net k x) ≡ true) →
      read_at net old new (suc k) s ≡ true → holds old new (after_step net (Some a) (leaf_at net k) s) ≡ true
  step_holds k (assigns t e) at s is earlier y =
      ⊎_elim
      (λ here. ap (holds old new) (cond-true (t == s) (skeleton_over net (leaf_at net k) e) (leaf_at net k s) here)
      ∙ over_leaves net old new (read_at net old new k) (leaf_at net k) earlier e
      (accepted.assigned k t e at (ap (is_safe_signal net) (eqb-true t s here) ∙ is))
      (sym (solves.assigned k t e at) ∙ ap (signal_in new) (eqb-true t s here) ∙ sym (driven_now k (assigns t e) at s here) ∙ y))
      (λ other. ap (holds old new) (cond-false (t == s) (skeleton_over net (leaf_at net k) e) (leaf_at net k s) other)
      ∙ earlier s is (sym (undriven_as_before k (assigns t e) at s other) ∙ y))
      (cases_Bool (t == s))
  step_holds k (calls i args) at s is earlier y =
      ⊎_elim
      (λ here. ap (holds old new) (cond-true (drives net s (calls i args)) (now s) (leaf_at net k s) here)
      ∙ sym (driven_now k (calls i args) at s here) ∙ y)
      (λ other. ap (holds old new) (cond-false (drives net s (calls i args)) (now s) (leaf_at net k s) other)
      ∙ earlier s is (sym (undriven_as_before k (calls i args) at s other) ∙ y))
      (cases_Bool (drives net s (calls i args)))

  -- a safe signal as step k reads it is TRUE only where its skeleton is
  leaf_holds : (k : ℕ) → k ≤ length net.steps → (s : ℕ) → is_safe_signal net s ≡ true → read_at net old new k s ≡ true → holds old new (leaf_at net k s) ≡ true
  leaf_holds zero h s is y =
      ⊎_elim
      (λ input. ap (holds old new) (cond-true (nat_lt s (input_count net)) (now s) (before s) input)
      ∙ sym (cond-true (is_new net 0 s) (signal_in new s) (signal_in old s) (or_left (nat_lt s (input_count net)) false input)) ∙ y)
      (λ other. ap (holds old new) (cond-false (nat_lt s (input_count net)) (now s) (before s) other)
      ∙ sym (cond-false (is_new net 0 s) (signal_in new s) (signal_in old s) (or_from (nat_lt s (input_count net)) false other refl)) ∙ y)
      (cases_Bool (nat_lt s (input_count net)))
  leaf_holds (suc k) h s is y =
      let here = element_at net.steps k (omega arith) in
      ap (λ o. holds old new (after_step net o (leaf_at net k) s)) here.1
      ∙ step_holds k here.0 here.1 s is (leaf_holds k (omega arith)) y

  pub value_holds : (k : ℕ) (e : Formula) → k ≤ length net.steps → safe net e ≡ true → value (read_at net old new k) e ≡ true → holds old new (skeleton net k e) ≡ true
  value_holds k e h is y = over_leaves net old new (read_at net old new k) (leaf_at net k) (leaf_holds k h) e is y
