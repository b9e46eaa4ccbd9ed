-- The faults that are still to come, scan by scan, in a list of faults that strike in the order of their scans.
use Rattle.std.proofs.Common.{◌≡◌, ◌⊎◌, ◌≤◌, ◌<◌, ◌∙◌, ◌++◌, ℕ, zero, suc, true, false, cond, List, [], ◌∷◌, take, drop, inl, inr, ⊎_elim, refl, sym, ap, arith}
use Rattle.std.specs.Prelude.{◌==◌, All}
use Rattle.std.specs.List.{filter}
use Rattle.std.proofs.lemmas.Bool.{cases_lt, eq-eqb, eqb-true, ne_eqb}
use Rattle.std.proofs.lemmas.List.{take-append-drop}
use Rattle.std.proofs.lemmas.List.Elements.{All-head, All-tail, All-take, All-weaker, filter-append, filter_passes}

pub below_or_same : (i j : ℕ) → i ≤ j → (i < j) ⊎ (i ≡ j)
below_or_same i j le = ⊎_elim inl (λ not. inr (omega (arith, not, le))) (cases_lt i j)

module _ {F : Type 0} (scan_of : F → ℕ) where
  -- the faults of a scan
  abbrev pub those_of : ℕ → List F → List F
  those_of n fs = filter (λ f. scan_of f == n) fs

  -- faults that are all of one scan
  all_of_scan : (n : ℕ) (fs : List F) → All (λ f. scan_of f ≡ n) fs → those_of n fs ≡ fs
  all_of_scan n [] h = refl
  all_of_scan n (f ∷ fs) h =
      let here : (scan_of f == n) ≡ true = eq-eqb (scan_of f) n (All-head (λ g. scan_of g ≡ n) f fs h) in
      ap (λ b. cond b (f ∷ those_of n fs) (those_of n fs)) here ∙ ap (λ l. f ∷ l) (all_of_scan n fs (All-tail (λ g. scan_of g ≡ n) f fs h))

  -- faults of which none is of a scan
  none_of_scan : (n : ℕ) (fs : List F) → All (λ f. scan_of f ≡ n → ⊥) fs → those_of n fs ≡ []
  none_of_scan n [] h = refl
  none_of_scan n (f ∷ fs) h =
      let other : (scan_of f == n) ≡ false = ne_eqb (scan_of f) n (All-head (λ g. scan_of g ≡ n → ⊥) f fs h) in
      ap (λ b. cond b (f ∷ those_of n fs) (those_of n fs)) other ∙ none_of_scan n fs (All-tail (λ g. scan_of g ≡ n → ⊥) f fs h)

  append_nil : (l : List F) → l ++ [] ≡ l
  append_nil [] = refl
  append_nil (f ∷ l) = ap (λ r. f ∷ r) (append_nil l)

  -- where the first so many are of a scan, and the others are later, the first are those of the scan
  pub first_of_scan : (n k : ℕ) (fs : List F) → All (λ f. scan_of f ≡ n) (take k fs) → All (λ f. n < scan_of f) (drop k fs) → take k fs ≡ those_of n fs
  first_of_scan n k fs first later =
      sym (ap (those_of n) (sym (take-append-drop k fs)) ∙ filter-append (λ f. scan_of f == n) (take k fs) (drop k fs)
      ∙ (λ i. all_of_scan n (take k fs) first i ++ none_of_scan n (drop k fs) (All-weaker (λ f. n < scan_of f) (λ f. scan_of f ≡ n → ⊥) (λ f lt same. omega (arith, lt, same)) (drop k fs) later) i)
      ∙ append_nil (take k fs))

  -- of those of one scan none is of another
  none_of_another : (n k : ℕ) (fs : List F) → k < n → those_of n (those_of k fs) ≡ []
  none_of_another n k fs lt =
      none_of_scan n (those_of k fs) (All-weaker (λ f. (scan_of f == k) ≡ true) (λ f. scan_of f ≡ n → ⊥) (λ f is same. not_both (scan_of f) is same) (those_of k fs) (filter_passes (λ f. scan_of f == k) fs))
    where
      not_both : (s : ℕ) → (s == k) ≡ true → s ≡ n → ⊥
      not_both s is same = omega (arith, eqb-true s k is, same, lt)

  -- where the first so many are of no later scan than this one, those of a later scan are among the others
  pub later_in_rest : (n m k : ℕ) (fs : List F) → m < n → All (λ f. scan_of f ≤ m) (take k fs) → those_of n (drop k fs) ≡ those_of n fs
  later_in_rest n m k fs lt upto =
      sym (ap (those_of n) (sym (take-append-drop k fs)) ∙ filter-append (λ f. scan_of f == n) (take k fs) (drop k fs)
      ∙ ap (λ l. l ++ those_of n (drop k fs)) (none_of_scan n (take k fs) (All-weaker (λ f. scan_of f ≤ m) (λ f. scan_of f ≡ n → ⊥) (λ f le same. omega (arith, le, same, lt)) (take k fs) upto)))

  -- of those that come after so many scans, those that are counted up to the next scan are those that are due
  pub counted_are_due : (coming : List F) (made number k : ℕ) → All (λ f. made < scan_of f) coming → (coming ≡ []) ⊎ (number ≡ suc made) →
      All (λ f. scan_of f ≤ number) (take k coming) → All (λ f. number < scan_of f) (drop k coming) → take k coming ≡ those_of (suc made) coming
  counted_are_due coming made number k after_last counts upto later =
      ⊎_elim
      (λ none. ap (λ (l : List F). take k l) none ∙ take_nil k ∙ sym (ap (those_of (suc made)) none))
      (λ is. first_of_scan (suc made) k coming
      (λ i d lt. let above = All-take (λ f. made < scan_of f) k coming after_last i d lt in let below = upto i d lt in omega (arith, above, below, is))
      (λ i d lt. omega (arith, later i d lt, is)))
      counts
    where
      take_nil : (n : ℕ) → take {A = F} n [] ≡ []
      take_nil zero = refl
      take_nil (suc n) = refl

  -- ---- Where a run stands.

  -- So many scans were made: the faults of later scans are those still to come, and these are counted while there are any.
  pub record StandsAt (all : List F) (done : ℕ) (coming : List F) (made : ℕ) : Type 0 where
    pub same : (n : ℕ) → done < n → those_of n coming ≡ those_of n all
    pub counted : (coming ≡ []) ⊎ (made ≡ done)

  -- the faults that are due are those of the next scan
  pub due_next : (all : List F) (done : ℕ) (coming : List F) (made : ℕ) → StandsAt all done coming made → those_of (suc made) coming ≡ those_of (suc done) all
  due_next all done coming made stands =
      ⊎_elim
      (λ none. ap (those_of (suc made)) none ∙ sym (ap (those_of (suc done)) none) ∙ stands.same (suc done) (omega arith))
      (λ is. ap (λ n. those_of (suc n) coming) is ∙ stands.same (suc done) (omega arith))
      stands.counted

  -- after the next scan
  pub stands_next : (all : List F) (done : ℕ) (coming coming' : List F) (made made' : ℕ) → StandsAt all done coming made → coming ≡ those_of (suc made) coming ++ coming' →
      (coming ≡ []) ⊎ (made' ≡ suc made) → StandsAt all (suc done) coming' made'
  stands_next all done coming coming' made made' stands leaves counts = record {
    same = λ n lt. none_lost n lt ∙ stands.same n (omega (arith, lt));
    counted = ⊎_elim
        (λ none. inl (nothing_behind none))
        (λ more. ⊎_elim (λ none. inl (nothing_behind none)) (λ is. inr (more ∙ ap suc is)) stands.counted)
        counts;
  }
    where
      nothing_left : (xs ys : List F) → [] ≡ xs ++ ys → ys ≡ []
      nothing_left [] ys is = sym is
      nothing_left (x ∷ xs) ys is = cc

      nothing_behind : coming ≡ [] → coming' ≡ []
      nothing_behind none = nothing_left (those_of (suc made) coming) coming' (sym none ∙ leaves)

      due_none : (n : ℕ) → suc done < n → those_of n (those_of (suc made) coming) ≡ []
      due_none n lt =
          ⊎_elim
          (λ none. ap (those_of n) (ap (those_of (suc made)) none))
          (λ is. none_of_another n (suc made) coming (omega (arith, is, lt)))
          stands.counted

      none_lost : (n : ℕ) → suc done < n → those_of n coming' ≡ those_of n coming
      none_lost n lt =
          sym (ap (those_of n) leaves ∙ filter-append (λ f. scan_of f == n) (those_of (suc made) coming) coming' ∙ ap (λ l. l ++ those_of n coming') (due_none n lt))
