-- Failures in another order pass the same tests.
use Rattle.std.proofs.Common.{◌≡◌, Bool, true, false, not, List, [], ◌∷◌, refl, ap, sym, subst, ◌∙◌, ◌&&◌, IsTrue, nat_eq, length, arith}
use Rattle.std.proofs.lemmas.Bool.Decides.{nat_tests}
use Rattle.std.specs.List.{list_all, list_any}
use Rattle.std.specs.List.Sorted.{IsPermutation}
use Rattle.std.specs.Prelude.{◌||◌, ◌↔◌}
use Rattle.ps_bench_judge.specs.declared.checks.Failure.{Failure}
use Rattle.ps_bench_judge.specs.declared.run.CaseOutcome.{CaseOutcome}
use Rattle.ps_bench_test.specs.Outcome.{passes}
use Rattle.std.proofs.lemmas.List.Sorted.{list_any-IsPermutation}

by_first : (b c : Bool) → (b && not c) ≡ not (not b || c)
by_first true c = refl
by_first false c = refl

-- all pass where none fails
none_fails : {X : Type 0} (p : X → Bool) → (xs : List X) → list_all p xs ≡ not (list_any (λ x. not (p x)) xs)
none_fails p [] = refl
none_fails p (x ∷ xs) = ap (λ b. p x && b) (none_fails p xs) ∙ by_first (p x) (list_any (λ y. not (p y)) xs)

pub in_order : {X : Type 0} (xs ys : List X) → IsPermutation xs ys → (p : X → Bool) → list_all p ys ≡ list_all p xs
in_order xs ys moved p =
    none_fails p ys ∙ ap not (sym (list_any-IsPermutation (λ x. not (p x)) xs ys moved)) ∙ sym (none_fails p xs)

-- of lists of which every test says the same either is empty where the other is
none_by : (fs gs : List Failure) → list_all (λ f. false) fs ≡ list_all (λ f. false) gs → fs ≡ [] → gs ≡ []
none_by fs [] same none = refl
none_by fs (g ∷ gs) same none = let told = ap (list_all (λ f. false)) none in cc

-- a list without a length is empty
empty : (fs : List Failure) → IsTrue (nat_eq (length fs) 0) → fs ≡ []
empty [] none = refl
empty (f ∷ fs) none = let zero : length (f ∷ fs) ≡ 0 = grind (arith, nat_tests) in absurd (omega arith)

-- and an empty one has none
counted_none : {fs : List Failure} → fs ≡ [] → IsTrue (nat_eq (length fs) 0)
counted_none {fs} none = subst (λ (xs : List Failure). IsTrue (nat_eq (length xs) 0)) (sym none) refl

-- no failure is told exactly where none is there
pub passes_as : (outcome : CaseOutcome) (found : List Failure) →
    ((p : Failure → Bool) → list_all p outcome.failures.items ≡ list_all p found) → IsTrue (passes outcome) ↔ (found ≡ [])
passes_as outcome found same = (
  λ passed. none_by outcome.failures.items found (same (λ f. false)) (empty outcome.failures.items passed),
  λ none. counted_none (none_by found outcome.failures.items (sym (same (λ f. false))) none),
)
