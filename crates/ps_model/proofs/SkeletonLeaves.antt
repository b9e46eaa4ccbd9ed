-- The leaves of skeletons: none is BOOL, and each follows the driver of its signal.
use Rattle.std.proofs.Common.{◌≡◌, ℕ, suc, zero, ◌≤◌, ◌<◌, true, false, [], ◌∷◌, take, Option, Some, None, sym, ap, ◌∙◌, refl, subst, inl, inr, ⊎_elim, arith}
use Rattle.std.specs.Prelude.{All, slice_get, nat_lt, ◌==◌}
use Rattle.std.specs.List.{list_any}
use Rattle.std.proofs.lemmas.Bool.{cases_Bool, or_parts, and_parts, cond-true, cond-false, cases_lt, eqb-true, eq-eqb, lt-ltb}
use Rattle.std.proofs.lemmas.List.Elements.{All-nil, All-cons, All-append}
use Rattle.ps_model.specs.Formula.{Formula, Formulas, signal, all_of, any_of, no_operand, operand}
use Rattle.ps_model.specs.Action.{Action, assigns, calls}
use Rattle.ps_model.specs.Network.{Network, input_count, drives}
use Rattle.ps_model.specs.Sound.{IsSound}
use Rattle.ps_model.specs.Typing.{Accepted, safe, is_safe_signal, each_safe}
use Rattle.ps_model.specs.Skeleton.{Skeleton, now, before, more, skeleton_over, safe_skeletons, all_skeletons, after_step, leaf_at}
use Rattle.ps_model.specs.SkeletonLaws.{leaf_signals, leaf_signals_of, LeavesAreSafe, LeavesFollowDrivers}
use Rattle.ps_model.proofs.Once.{alone_after, none_of_first}
use Rattle.ps_model.proofs.Positions.{fails_later, fails_before}
use Rattle.ps_model.proofs.OneSolution.{inputs_undriven}

abbrev IsSafeIn : Network → ℕ → Type 0
IsSafeIn net s = is_safe_signal net s ≡ true

-- ---- No leaf is BOOL.

module _ (net : Network) (leaves : ℕ → Skeleton)
    (leaf : (s : ℕ) → is_safe_signal net s ≡ true → All (IsSafeIn net) (leaf_signals (leaves s))) where
  mutual
    pub over_safe_leaves : (e : Formula) → safe net e ≡ true → All (IsSafeIn net) (leaf_signals (skeleton_over net leaves e))
    over_safe_leaves (signal s) is = leaf s is
    over_safe_leaves (all_of es) is = over_safe_operands es
    over_safe_leaves (any_of es) is = over_each_operand es is

    over_safe_operands : (es : Formulas) → All (IsSafeIn net) (leaf_signals_of (safe_skeletons net leaves es))
    over_safe_operands no_operand = All-nil (IsSafeIn net)
    over_safe_operands (operand e es) =
        let with_it = more (skeleton_over net leaves e) (safe_skeletons net leaves es) in
        ⊎_elim
        (λ is. subst (λ ks. All (IsSafeIn net) (leaf_signals_of ks)) (sym (cond-true (safe net e) with_it (safe_skeletons net leaves es) is))
        (All-append (IsSafeIn net) (leaf_signals (skeleton_over net leaves e)) (leaf_signals_of (safe_skeletons net leaves es)) (over_safe_leaves e is) (over_safe_operands es)))
        (λ plain. subst (λ ks. All (IsSafeIn net) (leaf_signals_of ks)) (sym (cond-false (safe net e) with_it (safe_skeletons net leaves es) plain)) (over_safe_operands es))
        (cases_Bool (safe net e))

    over_each_operand : (es : Formulas) → each_safe net es ≡ true → All (IsSafeIn net) (leaf_signals_of (all_skeletons net leaves es))
    over_each_operand no_operand is = All-nil (IsSafeIn net)
    over_each_operand (operand e es) is =
        let both = and_parts (safe net e) (each_safe net es) is in
        All-append (IsSafeIn net) (leaf_signals (skeleton_over net leaves e)) (leaf_signals_of (all_skeletons net leaves es)) (over_safe_leaves e both.0) (over_each_operand es both.1)

module _ (net : Network) (accepted : Accepted net) where
  abbrev HasSafeLeaves : Skeleton → Type 0
  HasSafeLeaves k = All (IsSafeIn net) (leaf_signals k)

  -- one step
  step_is_safe : (k : ℕ) (o : Option Action) → slice_get net.steps k ≡ o → (s : ℕ) → is_safe_signal net s ≡ true →
      ((x : ℕ) → is_safe_signal net x ≡ true → HasSafeLeaves (leaf_at net k x)) → HasSafeLeaves (after_step net o (leaf_at net k) s)
  step_is_safe k None at s is earlier = earlier s is
  step_is_safe k (Some (assigns t e)) at s is earlier =
      ⊎_elim
      (λ here. subst HasSafeLeaves (sym (cond-true (t == s) (skeleton_over net (leaf_at net k) e) (leaf_at net k s) here))
      (over_safe_leaves net (leaf_at net k) earlier e (accepted.assigned k t e at (ap (is_safe_signal net) (eqb-true t s here) ∙ is))))
      (λ other. subst HasSafeLeaves (sym (cond-false (t == s) (skeleton_over net (leaf_at net k) e) (leaf_at net k s) other)) (earlier s is))
      (cases_Bool (t == s))
  step_is_safe k (Some (calls i args)) at s is earlier =
      ⊎_elim
      (λ here. subst HasSafeLeaves (sym (cond-true (drives net s (calls i args)) (now s) (leaf_at net k s) here)) (All-cons (IsSafeIn net) s [] is (All-nil (IsSafeIn net))))
      (λ other. subst HasSafeLeaves (sym (cond-false (drives net s (calls i args)) (now s) (leaf_at net k s) other)) (earlier s is))
      (cases_Bool (drives net s (calls i args)))

  leaf_is_safe : (k s : ℕ) → is_safe_signal net s ≡ true → HasSafeLeaves (leaf_at net k s)
  leaf_is_safe zero s is =
      let alone : All (IsSafeIn net) (s ∷ []) = All-cons (IsSafeIn net) s [] is (All-nil (IsSafeIn net)) in
      ⊎_elim
      (λ input. subst HasSafeLeaves (sym (cond-true (nat_lt s (input_count net)) (now s) (before s) input)) alone)
      (λ other. subst HasSafeLeaves (sym (cond-false (nat_lt s (input_count net)) (now s) (before s) other)) alone)
      (cases_Bool (nat_lt s (input_count net)))
  leaf_is_safe (suc k) s is = step_is_safe k (slice_get net.steps k) refl s is (λ x y. leaf_is_safe k x y)

  pub leaves_are_safe : LeavesAreSafe net
  leaves_are_safe k e is = over_safe_leaves net (leaf_at net k) (leaf_is_safe k) e is

-- ---- Each leaf follows its driver.

module _ (net : Network) where
  -- a step that doesn't drive a signal leaves its leaf
  leaf_stays : (k s : ℕ) (o : Option Action) → ((a : Action) → o ≡ Some a → drives net s a ≡ false) → after_step net o (leaf_at net k) s ≡ leaf_at net k s
  leaf_stays k s None others = refl
  leaf_stays k s (Some (assigns t e)) others = cond-false (t == s) (skeleton_over net (leaf_at net k) e) (leaf_at net k s) (others (assigns t e) refl)
  leaf_stays k s (Some (calls i args)) others = cond-false (drives net s (calls i args)) (now s) (leaf_at net k s) (others (calls i args) refl)

  -- and so do the steps from j up to k
  leaf_stays_along : (j k s : ℕ) → j ≤ k → ((m : ℕ) (a : Action) → j ≤ m → m < k → slice_get net.steps m ≡ Some a → drives net s a ≡ false) → leaf_at net k s ≡ leaf_at net j s
  leaf_stays_along j zero s up others = let e : 0 ≡ j = omega arith in ap (λ x. leaf_at net x s) e
  leaf_stays_along j (suc k) s up others =
      elim (cases_lt k j) [
        | inl past ↦ let e : suc k ≡ j = omega arith in ap (λ x. leaf_at net x s) e
        | inr inside ↦
            leaf_stays k s (slice_get net.steps k) (λ a at. others k a inside (omega arith) at)
            ∙ leaf_stays_along j k s inside (λ m a from below at. others m a from (omega arith) at)
      ]

  -- a signal that no step before k drives has the leaf of the beginning
  leaf_stays_first : (k s : ℕ) → list_any (drives net s) (take k net.steps) ≡ false → leaf_at net k s ≡ leaf_at net 0 s
  leaf_stays_first k s none =
      leaf_stays_along 0 k s (omega arith) (λ m a from below at. fails_before (drives net s) net.steps k m a none below at)

module _ (net : Network) (sound : IsSound net) where
  -- after its driver the leaf of a signal stays
  leaf_after_driver : (k j s : ℕ) (a : Action) → j < k → slice_get net.steps j ≡ Some a → drives net s a ≡ true → leaf_at net k s ≡ after_step net (Some a) (leaf_at net j) s
  leaf_after_driver k j s a later at here =
      let rest = alone_after (drives net s) net.steps (sound.one_driver s) j a at here in
      leaf_stays_along net (suc j) k s later (λ m b further below there. fails_later (drives net s) net.steps (suc j) m b rest further there)
      ∙ ap (λ o. after_step net o (leaf_at net j) s) at

  pub leaves_follow_drivers : LeavesFollowDrivers net
  leaves_follow_drivers = record {
    input = λ k s h.
        leaf_stays_first net k s (none_of_first (drives net s) net.steps k (inputs_undriven net sound s h))
        ∙ cond-true (nat_lt s (input_count net)) (now s) (before s) (lt-ltb s (input_count net) h);
    assigned = λ k j s e later at.
        let here : (s == s) ≡ true = eq-eqb s s refl in
        leaf_after_driver k j s (assigns s e) later at here ∙ cond-true (s == s) (skeleton_over net (leaf_at net j) e) (leaf_at net j s) here;
    called = λ k j i s args later at here.
        leaf_after_driver k j s (calls i args) later at here ∙ cond-true (drives net s (calls i args)) (now s) (leaf_at net j s) here;
    remembered = λ k s old.
        let parts = or_parts (nat_lt s (input_count net)) (list_any (drives net s) (take k net.steps)) old in
        leaf_stays_first net k s parts.1 ∙ cond-false (nat_lt s (input_count net)) (now s) (before s) parts.0;
  }
