-- How many outputs instances have, and how many steps an application.
use Rattle.std.proofs.Common.{◌≡◌, ℕ, suc, zero, ◌+◌, ◌≤◌, ◌<◌, Bool, true, cond, List, [], ◌∷◌, length, replicate, sym, ap, ◌∙◌, refl, arith, ⊎_elim}
use Rattle.std.specs.Prelude.{count_by, sum_by, slice_get, Some}
use Rattle.std.proofs.lemmas.List.{length-append, length-replicate}
use Rattle.std.proofs.lemmas.List.Sums.{sum_by-cons}
use Rattle.std.specs.Prelude.{nat_le, nat_lt}
use Rattle.std.proofs.lemmas.Bool.{cond-true, cases_lt, eq-eqb, and_from, le-leb, lt-ltb}
use Rattle.ps_model.specs.Action.{Action, assigns, calls}
use Rattle.ps_model.specs.Network.{Network, signal_count, first_pin, kind_at, drives}
use Rattle.ps_model.specs.Sound.{IsSound}
use Rattle.ps_model.proofs.FirstPinBound.{first_pin-bound}
use Rattle.ps_model.specs.declared.kind.Kind.{Kind}
use Rattle.ps_model.specs.declared.kind.Ty.TheVariants.{Safe, Bool as Plain}
use Rattle.ps_model.specs.declared.named.Instance.{Instance}
use Rattle.ps_model.specs.Blocks.{block, output_count}
use Rattle.ps_model.specs.Named.{output_types, pin_types}

-- a kind has a type for each output
pub length-output_types : (kind : Kind) → length (output_types kind) ≡ output_count kind
unfolding output_types output_count
length-output_types kind = omega (arith, length-append (replicate (length (block kind).outputs) Safe) (Plain ∷ Plain ∷ []), length-replicate (length (block kind).outputs) Safe)

-- Ready and Error are two of a kind's outputs
two_outputs : (kind : Kind) → 2 ≤ output_count kind
unfolding output_count
two_outputs kind = omega arith

-- there is one type for each output
pub length-pin_types : (xs : List Instance) → length (pin_types xs) ≡ sum_by (λ x. output_count x.kind) xs
length-pin_types [] = refl
length-pin_types (x ∷ xs) =
    omega (
      arith,
      length-append (output_types x.kind) (pin_types xs),
      length-output_types x.kind,
      sum_by-cons (λ x. output_count x.kind) x xs,
      length-pin_types xs,
    )

-- where each element of a list passes one of n tests, and each test passes at most one element, there are at most n elements
module _ {X : Type 0} (p : ℕ → X → Bool) where
  -- how many of n tests, from the first on, an element passes
  abbrev passed : ℕ → X → ℕ
  passed zero x = 0
  passed (suc n) x = cond (p n x) 1 0 + passed n x

  abbrev all_passed : ℕ → List X → ℕ
  all_passed n xs = sum_by (passed n) xs

  one_test_more : (n : ℕ) (xs : List X) → all_passed (suc n) xs ≡ count_by (p n) xs + all_passed n xs
  one_test_more n [] = refl
  one_test_more n (x ∷ xs) =
      omega (
        arith,
        sum_by-cons (passed (suc n)) x xs,
        sum_by-cons (λ x. cond (p n x) 1 0) x xs,
        sum_by-cons (passed n) x xs,
        one_test_more n xs,
      )

  by_tests : (n : ℕ) (xs : List X) → ((i : ℕ) → count_by (p i) xs ≤ 1) → all_passed n xs ≤ n
  by_tests zero [] few = omega arith
  by_tests zero (x ∷ xs) few = omega (arith, sum_by-cons (passed 0) x xs, by_tests zero xs (λ i. omega (arith, few i, sum_by-cons (λ x. cond (p i x) 1 0) x xs)))
  by_tests (suc n) xs few = omega (arith, by_tests n xs few, few n, one_test_more n xs)

  one_passed : (n i : ℕ) (x : X) → i < n → p i x ≡ true → 1 ≤ passed n x
  one_passed zero i x h is = absurd (omega arith)
  one_passed (suc n) i x h is =
      ⊎_elim (λ earlier. omega (arith, one_passed n i x earlier is))
      (λ late.
      let same : i ≡ n = omega arith in
      omega (arith, cond-true {A = ℕ} (p n x) 1 0 (ap (λ z. p z x) (sym same) ∙ is)))
      (cases_lt i n)

  each_passed : (n : ℕ) (xs : List X) → ((k : ℕ) (x : X) → slice_get xs k ≡ Some x → 1 ≤ passed n x) → length xs ≤ all_passed n xs
  each_passed n [] one = omega arith
  each_passed n (x ∷ xs) one =
      omega (arith, sum_by-cons (passed n) x xs, one 0 x refl, each_passed n xs (λ k y at. one (suc k) y at))

  pub few_elements : (n : ℕ) (xs : List X) → ((i : ℕ) → count_by (p i) xs ≤ 1) →
      ((k : ℕ) (x : X) → slice_get xs k ≡ Some x → (i : ℕ) × (i < n) × (p i x ≡ true)) → length xs ≤ n
  few_elements n xs few some =
      omega (arith, by_tests n xs few, each_passed n xs (λ k x at. let r = some k x at in one_passed n r.0 x r.1 r.2))

-- each step drives a signal, and each signal has at most one driver: there are no more steps than signals
pub few_steps : (net : Network) → IsSound net → length net.steps ≤ signal_count net
few_steps net sound = few_elements (drives net) (signal_count net) net.steps sound.one_driver step_drives
  where
    step_drives : (k : ℕ) (a : Action) → slice_get net.steps k ≡ Some a → (s : ℕ) × (s < signal_count net) × (drives net s a ≡ true)
    step_drives k (assigns t e) at =
        let range = sound.targets k t e at in (t, omega arith, eq-eqb t t refl)
    step_drives k (calls i args) at =
        let bound = first_pin-bound net i (sound.instances k i args at) in
        let two = two_outputs (kind_at net i) in (
          first_pin net i,
          omega arith,
          and_from (nat_le (first_pin net i) (first_pin net i)) (nat_lt (first_pin net i) (first_pin net i + output_count (kind_at net i)))
              (le-leb (first_pin net i) (first_pin net i) (omega arith))
              (lt-ltb (first_pin net i) (first_pin net i + output_count (kind_at net i)) (omega arith)),
        )
