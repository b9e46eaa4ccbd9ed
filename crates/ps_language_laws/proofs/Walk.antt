-- What stands before each statement of a list.
use Rattle.std.proofs.Common.{◌≡◌, ◌↔◌, ℕ, zero, suc, Bool, true, List, [], ◌∷◌, ◌++◌, Some, map, take, slice_get, refl, sym, ap, subst, ◌∙◌, append_assoc, ◌||◌, ⊎_elim}
use Rattle.std.specs.List.{list_any}
use Rattle.std.specs.Str.{bytes_eq}
use Rattle.std.proofs.lemmas.Bool.{false≢true, or_cases}
use Rattle.std.proofs.lemmas.List.{append-nil}
use Rattle.std.proofs.lemmas.List.Folds.{list_any-append}
use Rattle.ps_parser.specs.declared.name.Name.{Name}
use Rattle.ps_parser.specs.Tree.{StatementTree}
use Rattle.ps_language_laws.specs.Paths.{is_among}
use Rattle.ps_language_laws.specs.Reading.{Scan, Before, nothing, and_then}
use Rattle.ps_language_laws.specs.Equations.{Callee, statement_leaves, statements_leave, StatementHolds, StatementsHold}

-- ---- what stands before, joined

pub then_nothing : (a : Before) → and_then a nothing ≡ a
then_nothing a = λ i. record { driven = append-nil a.driven i; called = append-nil a.called i }

pub then_then : (a b c : Before) → and_then (and_then a b) c ≡ and_then a (and_then b c)
then_then a b c = λ i. record { driven = append_assoc a.driven b.driven c.driven i; called = append_assoc a.called b.called c.called i }

module _ (callee : Name → Callee) (path : List ℕ) where
  -- what more statements leave
  pub leave_append : (xs ys : List StatementTree) → statements_leave callee path (xs ++ ys) ≡ and_then (statements_leave callee path xs) (statements_leave callee path ys)
  leave_append [] ys = refl
  leave_append (x ∷ xs) ys =
      ap (and_then (statement_leaves callee path x)) (leave_append xs ys)
      ∙ sym (then_then (statement_leaves callee path x) (statements_leave callee path xs) (statements_leave callee path ys))

  module _ (scan : Scan) where
    -- each statement holds with those before it, and the other way round
    pub each_holds : (before : Before) (ss : List StatementTree) → StatementsHold callee path scan before ss → (k : ℕ) (s : StatementTree) → slice_get ss k ≡ Some s →
        StatementHolds callee path scan (and_then before (statements_leave callee path (take k ss))) s
    each_holds before [] all k s at = cc
    each_holds before (x ∷ ss) all zero s at =
        let e : x ≡ s = cc in
        subst (λ b. StatementHolds callee path scan b s) (sym (then_nothing before)) (subst (StatementHolds callee path scan before) e all.0)
    each_holds before (x ∷ ss) all (suc k) s at =
        subst (λ b. StatementHolds callee path scan b s) (then_then before (statement_leaves callee path x) (statements_leave callee path (take k ss)))
        (each_holds (and_then before (statement_leaves callee path x)) ss all.1 k s at)

    pub all_hold : (before : Before) (ss : List StatementTree) →
        ((k : ℕ) (s : StatementTree) → slice_get ss k ≡ Some s → StatementHolds callee path scan (and_then before (statements_leave callee path (take k ss))) s) →
        StatementsHold callee path scan before ss
    all_hold before [] each = tt
    all_hold before (x ∷ ss) each = (
      subst (λ b. StatementHolds callee path scan b x) (then_nothing before) (each zero x refl),
      all_hold (and_then before (statement_leaves callee path x)) ss
          (λ k s at. subst (λ b. StatementHolds callee path scan b s) (sym (then_then before (statement_leaves callee path x) (statements_leave callee path (take k ss)))) (each (suc k) s at)),
    )

  -- ---- a test of each statement says what they leave

  module _ (p : List ℕ) {X : Type 0} (f : StatementTree → X) (test : X → Bool) where
    pub driven_any : (xs : List StatementTree) →
        ((k : ℕ) (s : StatementTree) → slice_get xs k ≡ Some s → is_among p (statement_leaves callee path s).driven ≡ test (f s)) →
        is_among p (statements_leave callee path xs).driven ≡ list_any test (map f xs)
    driven_any [] each = refl
    driven_any (x ∷ xs) each =
        list_any-append _ (statement_leaves callee path x).driven (statements_leave callee path xs).driven
        ∙ (λ i. each 0 x refl i || driven_any xs (λ k s at. each (suc k) s at) i)

    pub called_any : (xs : List StatementTree) →
        ((k : ℕ) (s : StatementTree) → slice_get xs k ≡ Some s → is_among p (statement_leaves callee path s).called ≡ test (f s)) →
        is_among p (statements_leave callee path xs).called ≡ list_any test (map f xs)
    called_any [] each = refl
    called_any (x ∷ xs) each =
        list_any-append _ (statement_leaves callee path x).called (statements_leave callee path xs).called
        ∙ (λ i. each 0 x refl i || called_any xs (λ k s at. each (suc k) s at) i)

-- what statements drive, one of them drives
pub driven_by : (callee : Name → Callee) (path p : List ℕ) (ss : List StatementTree) → is_among p (statements_leave callee path ss).driven ≡ true →
    (k : ℕ) × (s : StatementTree) × (slice_get ss k ≡ Some s) × (is_among p (statement_leaves callee path s).driven ≡ true)
driven_by callee path p [] h = absurd (false≢true h)
driven_by callee path p (s ∷ ss) h =
    ⊎_elim (λ here. (0, s, refl, here))
    (λ later. let r = driven_by callee path p ss later in (suc r.0, r.1, r.2, r.3))
    (or_cases (is_among p (statement_leaves callee path s).driven) (is_among p (statements_leave callee path ss).driven)
    (sym (list_any-append (bytes_eq p) (statement_leaves callee path s).driven (statements_leave callee path ss).driven) ∙ h))

-- a statement among the first is one of all
pub at_first : {X : Type 0} (xs : List X) (n k : ℕ) (x : X) → slice_get (take n xs) k ≡ Some x → slice_get xs k ≡ Some x
at_first [] zero k x at = at
at_first [] (suc n) k x at = at
at_first (y ∷ xs) zero k x at = cc
at_first (y ∷ xs) (suc n) zero x at = at
at_first (y ∷ xs) (suc n) (suc k) x at = at_first xs n k x at

-- ---- statements one after another

module _ (callee : Name → Callee) (path : List ℕ) (scan : Scan) where
  -- two lists of statements hold as one
  pub hold_append : (before : Before) (xs ys : List StatementTree) →
      StatementsHold callee path scan before (xs ++ ys) ↔ (StatementsHold callee path scan before xs × StatementsHold callee path scan (and_then before (statements_leave callee path xs)) ys)
  hold_append before [] ys = (
    λ h. (tt, subst (λ b. StatementsHold callee path scan b ys) (sym (then_nothing before)) h),
    λ h. subst (λ b. StatementsHold callee path scan b ys) (then_nothing before) h.1,
  )
  hold_append before (x ∷ xs) ys =
      let rest = hold_append (and_then before (statement_leaves callee path x)) xs ys in
      let moved = then_then before (statement_leaves callee path x) (statements_leave callee path xs) in (
        λ h. let r = rest.0 h.1 in ((h.0, r.0), subst (λ b. StatementsHold callee path scan b ys) moved r.1),
        λ h. (h.0.0, rest.1 (h.0.1, subst (λ b. StatementsHold callee path scan b ys) (sym moved) h.1)),
      )
