-- Times that do not fall.
use Rattle.std.proofs.Common.{◌≡◌, ◌≤◌, ◌+◌, ◌-◌, ◌*◌, ◌++◌, ℕ, List, length, get_or, refl, sym, subst, ⊎_elim, arith}
use Rattle.std.specs.List.{All, range_with_len}
use Rattle.std.specs.List.Sorted.{IsNonDecreasing}
use Rattle.std.proofs.Math.Nat.{mul-le-mul_right}
use Rattle.std.proofs.lemmas.Bool.{cases_lt}
use Rattle.std.proofs.lemmas.List.{get_or_append_left, get_or-append_right, length-append}
use Rattle.std.proofs.lemmas.List.FromFn.{get_or-map-range_with_len, length-map-range_with_len}
use Rattle.std.proofs.lemmas.List.Elements.{All-map}
use Rattle.ps_bench_cases.specs.declared.case.Pace.{Pace}
use Rattle.ps_bench_cases.specs.Meant.{time_at, times_of}

-- times after others that are no later
pub rising_append : (xs ys : List ℕ) (m : ℕ) → IsNonDecreasing xs → IsNonDecreasing ys → All (λ t. t ≤ m) xs → All (λ t. m ≤ t) ys → IsNonDecreasing (xs ++ ys)
rising_append xs ys m first second upto from i j d below within =
    let size = length-append xs ys in
    ⊎_elim
    (λ early. let le : get_or xs i d ≤ get_or xs j d = first i j d below early in
    subst (λ (n : ℕ). n ≤ get_or (xs ++ ys) j d) (sym (get_or_append_left xs ys d i (omega arith))) (subst (λ (n : ℕ). get_or xs i d ≤ n) (sym (get_or_append_left xs ys d j early)) le))
    (λ late. let at : get_or (xs ++ ys) j d ≡ get_or ys (j - length xs) d = get_or-append_right xs ys (length xs) j d refl late in
    subst (λ (n : ℕ). get_or (xs ++ ys) i d ≤ n) (sym at)
    (⊎_elim
    (λ before. let is : get_or (xs ++ ys) i d ≡ get_or xs i d = get_or_append_left xs ys d i before in
    omega (arith, is, upto i d before, from (j - length xs) d (omega arith)))
    (λ behind. let is : get_or (xs ++ ys) i d ≡ get_or ys (i - length xs) d = get_or-append_right xs ys (length xs) i d refl behind in
    omega (arith, is, second (i - length xs) (j - length xs) d (omega arith) (omega arith)))
    (cases_lt i (length xs))))
    (cases_lt j (length xs))

-- the times of a pace do not fall
pub pace_rises : (pace : Pace) → IsNonDecreasing (times_of pace)
pace_rises pace i j d below within =
    let size : length (times_of pace) ≡ pace.count = length-map-range_with_len (time_at pace) 1 pace.count in
    let first : get_or (times_of pace) i d ≡ time_at pace (1 + i) = get_or-map-range_with_len (time_at pace) 1 pace.count i (1 + i) d (omega arith) refl in
    let second : get_or (times_of pace) j d ≡ time_at pace (1 + j) = get_or-map-range_with_len (time_at pace) 1 pace.count j (1 + j) d (omega arith) refl in
    let far : (1 + i) * pace.step ≤ (1 + j) * pace.step = mul-le-mul_right pace.step (omega arith) in
    omega (arith, first, second, far)

-- they lie between its ends
pub pace_from : (pace : Pace) → pace.from ≤ pace.upto → All (λ t. pace.from ≤ t) (times_of pace)
pace_from pace on = All-map (λ t. pace.from ≤ t) (time_at pace) (range_with_len 1 pace.count) (λ k d within. omega arith)

pub pace_upto : (pace : Pace) → All (λ t. t ≤ pace.upto) (times_of pace)
pace_upto pace = All-map (λ t. t ≤ pace.upto) (time_at pace) (range_with_len 1 pace.count) (λ k d within. omega arith)
