-- Counting, number by number.
use Rattle.std.proofs.Common.{◌≡◌, ℕ, suc, ◌+◌, List, ◌∷◌, ◌++◌, [], Bool, true, false, cond, length, map, slice_get, not, Option, Some, None, refl, sym, ap, ◌∙◌, ◌&&◌, ◌||◌, ◌≤◌, append-nil, subst, zero-add, arith}
use Rattle.std.specs.Prelude.{count_by, slice_index_or, if◌then◌else◌}
use Rattle.std.specs.List.{flat_map, list_any, range_with_len}
use Rattle.std.proofs.lemmas.List.Sums.{sum_by-append}
use Rattle.std.proofs.Math.Bool.{or_assoc}
use Rattle.std.proofs.lemmas.Bool.{false≢true}
use Rattle.std.proofs.lemmas.Grind.{flat_map-append}
use Rattle.std.proofs.lemmas.List.Concat.{flat_map-cons}
use Rattle.std.proofs.lemmas.List.Folds.{list_any-append}
use Rattle.ps_cover.specs.Applying.{ScanStep}
use Rattle.ps_cover.specs.Covers.{Knows, KnowsOf}
use Rattle.ps_model.specs.Network.{Network}
use Rattle.ps_cover.specs.Covering.{point_of}
use Rattle.ps_cover.specs.Points as points
use Rattle.ps_cover.specs.Points.{shows}
use Rattle.ps_cover.specs.Shown.{is_covered, is_shown}
use Rattle.ps_cover.specs.Tallied.{CountsAreDefined, CoveredIsDefined, IsUnseen, KnowsTraces, TracesAddUp}
use Rattle.ps_cover.specs.declared.cover.Cover.{Cover}
use Rattle.ps_cover.specs.Tallying.{counts, counts_at, excluded_in, is_in, is_of, shown_at, tally}
use Rattle.ps_cover.specs.declared.excluding.Row.{Row}
use Rattle.ps_cover.specs.declared.tallying.Sort.{Sort}
use Rattle.ps_cover.specs.declared.tallying.Status.TheVariants.{Covered, Counted}
use Rattle.ps_cover.specs.declared.point.Point.{Point}
use Rattle.ps_cover.proofs.Listings.{range_more}

-- one element, and the others
cons_count : {P : Type 0} (f : P → Bool) (x : P) (xs : List P) → count_by f (x ∷ xs) ≡ cond (f x) 1 0 + count_by f xs
cons_count {P} f x xs =
    let split : count_by f (x ∷ xs) ≡ count_by f (x ∷ []) + count_by f xs = sum_by-append (λ (m : P). cond (f m) 1 0) (x ∷ []) xs in
    let one : count_by f (x ∷ []) ≡ cond (f x) 1 0 = zero-add (cond (f x) 1 0) in
    split ∙ ap (λ m. m + count_by f xs) one

-- one number more
pub count_more : (f : ℕ → Bool) (n : ℕ) → count_by f (range_with_len 0 (n + 1)) ≡ count_by f (range_with_len 0 n) + (if f n then 1 else 0)
count_more f n =
    let next : n + 1 ≡ suc n = omega arith in
    let last : 0 + n ≡ n = omega arith in
    let one : count_by f (n ∷ []) ≡ cond (f n) 1 0 = zero-add (cond (f n) 1 0) in
    ap (λ m. count_by f (range_with_len 0 m)) next ∙ ap (count_by f) (range_more 0 n)
    ∙ ap (λ m. count_by f (range_with_len 0 n ++ m ∷ [])) last
    ∙ sum_by-append (λ m. cond (f m) 1 0) (range_with_len 0 n) (n ∷ [])
    ∙ ap (λ m. count_by f (range_with_len 0 n) + m) one

pub at_most_one : (b : Bool) → (if b then 1 else 0) ≤ 1
at_most_one true = omega arith
at_most_one false = omega arith

-- what counts for one reason, and what for a weaker one
pub count_fewer : (f g : ℕ → Bool) → ((n : ℕ) → f n ≡ true → g n ≡ true) → (ns : List ℕ) → count_by f ns ≤ count_by g ns
count_fewer f g weaker [] = omega arith
count_fewer f g weaker (n ∷ ns) =
    let rest = count_fewer f g weaker ns in
    subst (λ m. m ≤ count_by g (n ∷ ns)) (sym (cons_count f n ns))
    (subst (λ m. cond (f n) 1 0 + count_by f ns ≤ m) (sym (cons_count g n ns)) (one (f n) (g n) (weaker n) rest))
  where
    one : (b b' : Bool) → (b ≡ true → b' ≡ true) → {x y : ℕ} → x ≤ y → cond b 1 0 + x ≤ cond b' 1 0 + y
    one true b' h {x} {y} le = subst (λ v. 1 + x ≤ cond v 1 0 + y) (sym (h refl)) (let m : 1 + x ≤ 1 + y = omega (arith, le) in m)
    one false true h {x} {y} le = let m : 0 + x ≤ 1 + y = omega (arith, le) in m
    one false false h {x} {y} le = let m : 0 + x ≤ 0 + y = omega (arith, le) in m

-- what was covered is counted
pub covered_within : (net : Network) (rows : List Row) (c : Cover) (sort : Sort) (step : Option ℕ) →
    tally net rows c sort step Covered ≤ tally net rows c sort step Counted
covered_within net rows c sort step = count_fewer _ _ (λ n. weaker n (slice_get c.points.items n)) (range_with_len 0 (length c.points.items))
  where
    both : (a b x y : Bool) → (a && b && (not x && y)) ≡ true → (a && b && not x) ≡ true
    both true true false true e = refl
    both true true false false e = absurd (false≢true e)
    both true true true y e = absurd (false≢true e)
    both true false x y e = absurd (false≢true e)
    both false b x y e = absurd (false≢true e)

    weaker : (n : ℕ) (o : Option Point) → counts_at net rows sort step Covered (shown_at c n) o ≡ true → counts_at net rows sort step Counted (shown_at c n) o ≡ true
    weaker n None e = e
    weaker n (Some p) e = both (is_of net sort (point_of p)) (is_in step (point_of p)) (excluded_in rows (point_of p)) (shown_at c n) e

-- numbers of the elements of a list, and the elements
pub index_count : {P : Type 0} (f : ℕ → Bool) (h : P → Bool) (a : ℕ) (xs : List P) → ((n : ℕ) (p : P) → slice_get xs n ≡ Some p → f (a + n) ≡ h p) →
    count_by f (range_with_len a (length xs)) ≡ count_by h xs
index_count f h a [] each = refl
index_count {P} f h a (x ∷ xs) each =
    let first : f a ≡ h x = ap f (let e : a ≡ a + 0 = omega arith in e) ∙ each 0 x refl in
    let rest : count_by f (range_with_len (a + 1) (length xs)) ≡ count_by h xs =
    index_count f h (a + 1) xs (λ n p at. ap f (let e : a + 1 + n ≡ a + suc n = omega arith in e) ∙ each (suc n) p at) in
    cons_count f a (range_with_len (a + 1) (length xs)) ∙ (λ i. cond (first i) 1 0 + rest i) ∙ sym (cons_count h x xs)

pub map_count : {P Q : Type 0} (g : P → Q) (h : Q → Bool) (xs : List P) → count_by (λ p. h (g p)) xs ≡ count_by h (map g xs)
map_count g h [] = refl
map_count g h (x ∷ xs) =
    cons_count (λ p. h (g p)) x xs ∙ ap (λ m. cond (h (g x)) 1 0 + m) (map_count g h xs) ∙ sym (cons_count h (g x) (map g xs))

-- in some trace, and in all of them one after another
any_flat : (f : ScanStep → Bool) (traces : List (List ScanStep)) → list_any f (flat_map (λ steps. steps) traces) ≡ list_any (list_any f) traces
any_flat f [] = refl
any_flat f (steps ∷ traces) =
    ap (list_any f) (flat_map-cons (λ (xs : List ScanStep). xs) steps traces)
    ∙ list_any-append f steps (flat_map (λ xs. xs) traces) ∙ ap (λ b. list_any f steps || b) (any_flat f traces)

-- what was shown by some traces, with each value, to a cover that had seen nothing
module _ (net : Network) (traces : List (List ScanStep)) (old new : Cover) (unseen : IsUnseen old) (knows : KnowsTraces net traces old new)
    (n : ℕ) (p : Point) (at : slice_get old.points.items n ≡ Some p) where
  pub off_shown : slice_index_or new.off.items n false ≡ is_shown net traces false (point_of p)
  off_shown =
      knows.off.seen n p at ∙ ap (λ v. v || list_any (shows net false (point_of p)) (flat_map (λ steps. steps) traces)) (unseen.off n)
      ∙ any_flat (shows net false (point_of p)) traces

  pub on_shown : slice_index_or new.on.items n false ≡ is_shown net traces true (point_of p)
  on_shown =
      knows.on.seen n p at ∙ ap (λ v. v || list_any (shows net true (point_of p)) (flat_map (λ steps. steps) traces)) (unseen.on n)
      ∙ any_flat (shows net true (point_of p)) traces

-- and with both
pub shown_is : CoveredIsDefined
shown_is net traces old new unseen knows n p at =
    λ i. off_shown net traces old new unseen knows n p at i && on_shown net traces old new unseen knows n p at i

-- so the counts are those of the definitions
pub tally_is : CountsAreDefined
tally_is net rows traces old new sort step status unseen knows =
    let h : points.Point → Bool = λ q. counts net rows sort step status q (is_covered net traces q) in
    let f : ℕ → Bool = λ n. counts_at net rows sort step status (shown_at new n) (slice_get new.points.items n) in
    index_count f (λ p. h (point_of p)) 0 new.points.items (λ n p at.
    let e : 0 + n ≡ n = omega arith in
    let here : slice_get old.points.items n ≡ Some p = ap (λ (ps : List Point). slice_get ps n) (sym knows.points) ∙ at in
    ap f e ∙ ap (λ o. counts_at net rows sort step status (shown_at new n) o) at
    ∙ ap (λ s. counts net rows sort step status (point_of p) s) (shown_is net traces old new unseen knows n p here))
    ∙ map_count point_of h new.points.items

-- what is known of some scans, and then of more
bits_add_up : (net : Network) (steps more : List ScanStep) (points points' : List Point) (b : Bool) (x y z w : List Bool) → points' ≡ points → z ≡ y →
    KnowsOf net steps points b x y → KnowsOf net more points' b z w → KnowsOf net (steps ++ more) points b x w
bits_add_up net steps more points points' b x y z w same kept first rest = record {
  each = rest.each ∙ ap length kept ∙ first.each;
  seen = λ n p at.
      let f = shows net b (point_of p) in
      rest.seen n p (ap (λ (ps : List Point). slice_get ps n) same ∙ at)
      ∙ ap (λ (bs : List Bool). slice_index_or bs n false || list_any f more) kept
      ∙ ap (λ v. v || list_any f more) (first.seen n p at)
      ∙ or_assoc (slice_index_or x n false) (list_any f steps) (list_any f more)
      ∙ ap (λ v. slice_index_or x n false || v) (sym (list_any-append f steps more));
}

pub add_up : TracesAddUp
add_up net traces more old behind begun new first begins rest =
    let steps = flat_map (λ (xs : List ScanStep). xs) traces in
    let all : flat_map (λ (xs : List ScanStep). xs) (traces ++ more ∷ []) ≡ steps ++ more =
    flat_map-append (λ (xs : List ScanStep). xs) traces (more ∷ []) ∙ ap (λ ms. steps ++ ms) (append-nil more) in
    subst (λ ss. Knows net ss old new) (sym all) (record {
      points = rest.points ∙ begins.points ∙ first.points;
      off = bits_add_up net steps more old.points.items begun.points.items false old.off.items behind.off.items begun.off.items new.off.items
          (begins.points ∙ first.points) begins.off first.off rest.off;
      on = bits_add_up net steps more old.points.items begun.points.items true old.on.items behind.on.items begun.on.items new.on.items
          (begins.points ∙ first.points) begins.on first.on rest.on;
    })
