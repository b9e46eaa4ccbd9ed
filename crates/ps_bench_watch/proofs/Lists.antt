-- Lists: what holds of each element, and where one element passes a test.
use Rattle.std.proofs.Common.{◌≡◌, ◌≢◌, ◌∙◌, ◌++◌, ◌+◌, ◌-◌, ◌≤◌, ◌<◌, ℕ, zero, suc, Bool, true, false, List, [], ◌∷◌, flat_map, get_or, length, ap, arith}
use Rattle.std.specs.List.{AllByRecursion, filter, range_with_len}
use Rattle.ps_bench_logs.proofs.Naming.{kept_first, left_out, range_over}

module _ {X : Type 0} (P : X → Type 0) where
  pub all_both : (xs ys : List X) → AllByRecursion P xs → AllByRecursion P ys → AllByRecursion P (xs ++ ys)
  all_both [] ys first second = second
  all_both (x ∷ xs) ys first second = (first.0, all_both xs ys first.1 second)

  pub all_at : (xs : List X) (k : ℕ) (d : X) → AllByRecursion P xs → k < length xs → P (get_or xs k d)
  all_at [] k d all within = absurd (omega (arith, within))
  all_at (x ∷ xs) zero d all within = all.0
  all_at (x ∷ xs) (suc k) d all within = all_at xs k d all.1 (omega (arith, within))

  pub all_ranged : (f : ℕ → List X) (n from : ℕ) → ((k : ℕ) → from ≤ k → k < from + n → AllByRecursion P (f k)) →
      AllByRecursion P (flat_map f (range_with_len from n))
  all_ranged f zero from each = tt
  all_ranged f (suc n) from each =
      all_both (f from) (flat_map f (range_with_len (from + 1) n)) (each from (omega arith) (omega arith))
      (all_ranged f n (from + 1) (λ k low high. each k (omega (arith, low)) (omega (arith, high))))

-- ---- One place passes a test.

none_from : (test : ℕ → Bool) (count k n : ℕ) → k + count ≡ n → ((j : ℕ) → k ≤ j → j < n → test j ≡ false) →
    filter test (range_with_len k (n - k)) ≡ []
none_from test zero k n is none = ap (filter test) (range_over k n (omega (arith, is)))
none_from test (suc count) k n is none =
    left_out test k n (omega (arith, is)) (none k (omega arith) (omega (arith, is)))
    ∙ none_from test count (k + 1) n (omega (arith, is)) (λ j low high. none j (omega (arith, low)) high)

only_from : (test : ℕ → Bool) (p count k n : ℕ) → k + count ≡ p → p < n → test p ≡ true →
    ((j : ℕ) → j < n → j ≢ p → test j ≡ false) → filter test (range_with_len k (n - k)) ≡ p ∷ []
only_from test p zero k n is within passes others =
    let here : k ≡ p = omega (arith, is) in
    kept_first test k n (omega (arith, is, within)) (ap test here ∙ passes)
    ∙ ap (λ (places : List ℕ). k ∷ places) (none_from test (n - (k + 1)) (k + 1) n (omega (arith, is, within)) (λ j low high. others j high (λ same. omega (arith, same, low, here))))
    ∙ ap (λ (j : ℕ). j ∷ []) here
only_from test p (suc count) k n is within passes others =
    left_out test k n (omega (arith, is, within)) (others k (omega (arith, is, within)) (λ same. omega (arith, same, is)))
    ∙ only_from test p count (k + 1) n (omega (arith, is)) within passes others

-- the only place that passes a test
pub only_place : (test : ℕ → Bool) (p n : ℕ) → p < n → test p ≡ true → ((j : ℕ) → j < n → j ≢ p → test j ≡ false) →
    filter test (range_with_len 0 n) ≡ p ∷ []
only_place test p n within passes others =
    let all : n ≡ n - 0 = omega arith in
    ap (λ (m : ℕ). filter test (range_with_len 0 m)) all ∙ only_from test p p 0 n (omega arith) within passes others
