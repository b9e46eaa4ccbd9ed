-- Numbers together, and those of two tables.
use Rattle.std.proofs.Common.{◌≡◌, ◌≢◌, ◌≤◌, ◌<◌, ◌∙◌, ◌+◌, ◌*◌, ◌⊎◌, inl, inr, ℕ, zero, suc, min, refl, sym, ap, subst, arith}
use Rattle.std.proofs.Math.Nat.{add-mul, mul-le-mul_right, mul-suc}
use Rattle.std.proofs.lemmas.Bool.{cases_lt}
use Rattle.ps_outside.specs.Outside.{last_count}
use Rattle.ps_bench_trials.specs.Lines.{more}
use Rattle.ps_bench_trials.specs.Possible.{total}

-- one number more, where all stay at the largest value
pub one_more : (f : ℕ → ℕ) (n before by after : ℕ) → before ≡ min (total f n) last_count → by ≡ min (f n) last_count →
    after ≡ min (before + by) last_count → after ≡ min (total f (n + 1)) last_count
one_more f n before by after so here more_is =
    let next : suc n ≡ n + 1 = omega arith in
    let all : after ≡ min (total f n + f n) last_count = omega (arith, so, here, more_is) in
    all ∙ ap (λ (m : ℕ). min (total f m) last_count) next

-- the same numbers
pub total_same : (f g : ℕ → ℕ) (n : ℕ) → ((c : ℕ) → f c ≡ g c) → total f n ≡ total g n
total_same f g zero same = refl
total_same f g (suc n) same = λ i. total_same f g n same i + same n i

-- numbers that are not larger
pub total_le : (f g : ℕ → ℕ) (n : ℕ) → ((c : ℕ) → f c ≤ g c) → total f n ≤ total g n
total_le f g zero less = omega arith
total_le f g (suc n) less =
    let both : total f n + f n ≤ total g n + g n = omega (arith, total_le f g n less, less n) in both

-- two numbers at each place
total_two : (f g : ℕ → ℕ) (n : ℕ) → total (λ c. f c + g c) n ≡ total f n + total g n
total_two f g zero = refl
total_two f g (suc n) =
    let both : total (λ c. f c + g c) n + (f n + g n) ≡ (total f n + f n) + (total g n + g n) = omega (arith, total_two f g n) in both

-- no number
pub total_none : (f : ℕ → ℕ) (n : ℕ) → ((c : ℕ) → c < n → f c ≡ 0) → total f n ≡ 0
total_none f zero none = refl
total_none f (suc n) none =
    let both : total f n + f n ≡ 0 = omega (arith, total_none f n (λ c within. none c (omega (arith, within))), none n (omega arith)) in both

-- one number
pub total_one : (f : ℕ → ℕ) (n i : ℕ) → i < n → ((c : ℕ) → c ≢ i → f c ≡ 0) → total f n ≡ f i
total_one f zero i within others = let no : ⊥ = omega (arith, within) in absurd no
total_one f (suc n) i within others = by (λ before. total_one f n i before others) (cases_lt i n)
  where
    by : (i < n → total f n ≡ f i) → (i < n) ⊎ (n ≤ i) → total f n + f n ≡ f i
    by rest (inl before) =
        let last : f n ≡ 0 = others n (λ e. let no : ⊥ = omega (arith, e, before) in no) in
        omega (arith, rest before, last)
    by rest (inr here) =
        let same : n ≡ i = omega (arith, within, here) in
        let first : total f n ≡ 0 = total_none f n (λ c less. others c (λ e. let no : ⊥ = omega (arith, e, less, same) in no)) in
        omega (arith, first, ap f same)

-- a number that stands at most at a limit, some times
capped_times : (x w m : ℕ) → min (x * w) m ≤ min x m * w
capped_times x zero m = omega arith
capped_times x (suc w) m = by (cases_lt m x)
  where
    by : (m < x) ⊎ (x ≤ m) → min (x * suc w) m ≤ min x m * suc w
    by (inl over) =
        let cut : m ≡ min x m = omega (arith, over) in
        subst (λ (k : ℕ). min (x * suc w) m ≤ k * suc w) cut (omega (arith, mul-suc m w))
    by (inr under) =
        let all : x ≡ min x m = omega (arith, under) in
        subst (λ (k : ℕ). min (x * suc w) m ≤ k * suc w) all (omega arith)

capped_total : (f w : ℕ → ℕ) (n m : ℕ) → min (total (λ c. f c * w c) n) m ≤ total (λ c. min (f c) m * w c) n
capped_total f w zero m = omega arith
capped_total f w (suc n) m =
    let both : min (total (λ c. f c * w c) n + f n * w n) m ≤ total (λ c. min (f c) m * w c) n + min (f n) m * w n =
    omega (arith, capped_total f w n m, capped_times (f n) (w n) m) in both

-- ---- two tables together, by any weights
module _ (a b w : ℕ → ℕ) (n : ℕ) where
  both_weighed : total (λ c. (a c + b c) * w c) n ≡ total (λ c. a c * w c) n + total (λ c. b c * w c) n
  both_weighed =
      total_same (λ c. (a c + b c) * w c) (λ c. a c * w c + b c * w c) n (λ c. add-mul (a c) (b c) (w c))
      ∙ total_two (λ c. a c * w c) (λ c. b c * w c) n

  -- not more than both
  pub not_more : total (λ c. more (a c) (b c) * w c) n ≤ total (λ c. a c * w c) n + total (λ c. b c * w c) n
  not_more =
      let less : total (λ c. more (a c) (b c) * w c) n ≤ total (λ c. (a c + b c) * w c) n =
      total_le (λ c. more (a c) (b c) * w c) (λ c. (a c + b c) * w c) n
      (λ c. mul-le-mul_right (w c) (let cut : more (a c) (b c) ≤ a c + b c = omega arith in cut)) in
      omega (arith, less, both_weighed)

  -- and not less, up to the largest value
  pub not_less : min (total (λ c. a c * w c) n + total (λ c. b c * w c) n) last_count ≤ total (λ c. more (a c) (b c) * w c) n
  not_less =
      let cut : min (total (λ c. (a c + b c) * w c) n) last_count ≤ total (λ c. min (a c + b c) last_count * w c) n =
      capped_total (λ c. a c + b c) w n last_count in
      omega (arith, cut, both_weighed)
