-- The columns of latencies.
use Rattle.std.proofs.Common.{◌≡◌, ◌≤◌, ◌<◌, ◌∙◌, ◌+◌, ◌-◌, ◌∷◌, [], ◌⊎◌, ◌&&◌, inl, inr, ℕ, zero, suc, Bool, true, false, List, cond, count_by, drop, get_or, length, nat_le, refl, sym, ap, subst, arith}
use Rattle.std.specs.Prelude.{slice_index}
use Rattle.std.proofs.lemmas.Bool.{and_parts, cases_lt, le-leb, leb-true, lt-leb}
use Rattle.std.proofs.lemmas.List.Sums.{count_by-le-length, sum_by-cons}
use Rattle.ps_bench_trials.specs.Lines.{column_of}
use Rattle.ps_bench_trials.specs.declared.line.TheConstants.{FLOORS}

-- numbers that rise from one on
abbrev is_rising : (least : ℕ) → List ℕ → Bool
is_rising least [] = true
is_rising least (f ∷ fs) = nat_le least f && is_rising f fs

module _ (x : ℕ) where
  -- whether a number is not above x
  abbrev upto_x : ℕ → Bool
  upto_x f = nat_le f x

  counted_more : (f : ℕ) (fs : List ℕ) → f ≤ x → count_by upto_x (f ∷ fs) ≡ 1 + count_by upto_x fs
  counted_more f fs under =
      sum_by-cons (λ y. cond (upto_x y) 1 0) f fs ∙ ap (λ (b : Bool). cond b 1 0 + count_by upto_x fs) (le-leb f x under)

  counted_same : (f : ℕ) (fs : List ℕ) → x < f → count_by upto_x (f ∷ fs) ≡ 0 + count_by upto_x fs
  counted_same f fs over =
      sum_by-cons (λ y. cond (upto_x y) 1 0) f fs ∙ ap (λ (b : Bool). cond b 1 0 + count_by upto_x fs) (lt-leb f x over)

  -- none of numbers that rise from one above x
  none_upto : (least : ℕ) (fs : List ℕ) → is_rising least fs ≡ true → x < least → count_by upto_x fs ≡ 0
  none_upto least [] rises over = refl
  none_upto least (f ∷ fs) rises over =
      let parts = and_parts (nat_le least f) (is_rising f fs) rises in
      let first : x < f = omega (arith, leb-true least f parts.0, over) in
      omega (arith, counted_same f fs first, none_upto f fs parts.1 first)

  none_here : (least f : ℕ) (fs : List ℕ) → is_rising least (f ∷ fs) ≡ true → x < f → count_by upto_x (f ∷ fs) ≡ 0
  none_here least f fs rises over =
      let parts = and_parts (nat_le least f) (is_rising f fs) rises in
      omega (arith, counted_same f fs over, none_upto f fs parts.1 over)

  -- the numbers before the count are not above x
  upto : (least : ℕ) (fs : List ℕ) (i : ℕ) → is_rising least fs ≡ true → i < count_by upto_x fs → get_or fs i 0 ≤ x
  upto least [] i rises inside = let no : ⊥ = omega (arith, inside) in absurd no
  upto least (f ∷ fs) zero rises inside = by (cases_lt x f)
    where
      by : (x < f) ⊎ (f ≤ x) → f ≤ x
      by (inl over) = let no : ⊥ = omega (arith, inside, none_here least f fs rises over) in absurd no
      by (inr under) = under
  upto least (f ∷ fs) (suc i) rises inside = by (λ less. upto f fs i (and_parts (nat_le least f) (is_rising f fs) rises).1 less) (cases_lt x f)
    where
      by : (i < count_by upto_x fs → get_or fs i 0 ≤ x) → (x < f) ⊎ (f ≤ x) → get_or fs i 0 ≤ x
      by rest (inl over) = let no : ⊥ = omega (arith, inside, none_here least f fs rises over) in absurd no
      by rest (inr under) = rest (omega (arith, inside, counted_more f fs under))

  -- the one behind them is
  behind : (least : ℕ) (fs : List ℕ) → is_rising least fs ≡ true → count_by upto_x fs < length fs → x < get_or fs (count_by upto_x fs) 0
  behind least [] rises inside = let no : ⊥ = omega (arith, inside) in absurd no
  behind least (f ∷ fs) rises inside = by (λ less. behind f fs (and_parts (nat_le least f) (is_rising f fs) rises).1 less) (cases_lt x f)
    where
      by : (count_by upto_x fs < length fs → x < get_or fs (count_by upto_x fs) 0) → (x < f) ⊎ (f ≤ x) →
          x < get_or (f ∷ fs) (count_by upto_x (f ∷ fs)) 0
      by rest (inl over) = subst (λ (n : ℕ). x < get_or (f ∷ fs) n 0) (sym (none_here least f fs rises over)) over
      by rest (inr under) =
          let more = counted_more f fs under in
          let next : suc (count_by upto_x fs) ≡ count_by upto_x (f ∷ fs) = omega (arith, more) in
          subst (λ (n : ℕ). x < get_or (f ∷ fs) n 0) next (rest (omega (arith, inside, more)))

-- as many or more of a larger number
counted_le : (x y : ℕ) (fs : List ℕ) → x ≤ y → count_by (λ f. nat_le f x) fs ≤ count_by (λ f. nat_le f y) fs
counted_le x y [] less = omega arith
counted_le x y (f ∷ fs) less = by (counted_le x y fs less) (cases_lt x f) (cases_lt y f)
  where
    by : count_by (λ g. nat_le g x) fs ≤ count_by (λ g. nat_le g y) fs → (x < f) ⊎ (f ≤ x) → (y < f) ⊎ (f ≤ y) → count_by (λ g. nat_le g x) (f ∷ fs) ≤ count_by (λ g. nat_le g y) (f ∷ fs)
    by rest (inl p) (inl q) = omega (arith, rest, counted_same x f fs p, counted_same y f fs q)
    by rest (inl p) (inr q) = omega (arith, rest, counted_same x f fs p, counted_more y f fs q)
    by rest (inr p) (inl q) = let no : ⊥ = omega (arith, less, p, q) in absurd no
    by rest (inr p) (inr q) = omega (arith, rest, counted_more x f fs p, counted_more y f fs q)

-- ---- the columns of a table

rises : is_rising 0 FLOORS ≡ true
rises = refl

-- the first column begins with 0
some_upto : (x f : ℕ) (fs : List ℕ) → f ≤ x → 0 < count_by (λ g. nat_le g x) (f ∷ fs)
some_upto x f fs under = omega (arith, counted_more x f fs under)

some_column : (x : ℕ) → 0 < count_by (λ f. nat_le f x) FLOORS
some_column x = some_upto x 0 (drop 1 FLOORS) (omega arith)

-- there are 33 columns
pub few_columns : (x : ℕ) → column_of x < 33
unfolding column_of
few_columns x =
    let most : count_by (λ f. nat_le f x) FLOORS ≤ 33 = count_by-le-length (λ f. nat_le f x) FLOORS in
    omega (arith, most, some_column x)

-- a latency is not below its column
pub not_below : (x : ℕ) → slice_index FLOORS (column_of x) ≤ x
unfolding column_of
not_below x = upto x 0 FLOORS (count_by (λ f. nat_le f x) FLOORS - 1) rises (omega (arith, some_column x))

-- and below the next one
pub below_next : (x : ℕ) → column_of x < 32 → x < slice_index FLOORS (column_of x + 1)
unfolding column_of
below_next x early =
    let next : count_by (λ f. nat_le f x) FLOORS ≡ count_by (λ f. nat_le f x) FLOORS - 1 + 1 = omega (arith, some_column x) in
    let inside : count_by (λ f. nat_le f x) FLOORS < 33 = omega (arith, early, some_column x) in
    subst (λ (n : ℕ). x < get_or FLOORS n 0) next (behind x 0 FLOORS rises inside)

-- a larger latency has no earlier column
pub column_le : (x y : ℕ) → x ≤ y → column_of x ≤ column_of y
unfolding column_of
column_le x y less = omega (arith, counted_le x y FLOORS less)
