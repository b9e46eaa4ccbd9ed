-- Lines whose latencies some trips have: of one trip, and of two lines together.
use Rattle.std.proofs.Common.{◌≡◌, ◌≢◌, ◌≤◌, ◌<◌, ◌∙◌, ◌+◌, ◌-◌, ◌*◌, ◌∷◌, [], ◌⊎◌, ◌&&◌, ◌==◌, if◌then◌else◌, inl, inr, ℕ, zero, suc, Bool, true, false, List, Some, get_or, length, max, min, nat_le, nat_lt, replicate, set, refl, sym, ap, subst, arith}
use Rattle.std.specs.Prelude.{slice_index}
use Rattle.std.proofs.Math.Nat.{mul-le-mul_left, zero-mul}
use Rattle.std.proofs.lemmas.Bool.{and_from, and_parts, cases_lt, eq-eqb, eqb-true, le-leb, le-ltb, leb-true, lt-ltb, ltb-true}
use Rattle.std.proofs.lemmas.List.{get_or-set_same, get_or-set_other, length-replicate}
use Rattle.ps_outside.specs.Outside.{last_count}
use Rattle.ps_bench_trials.proofs.Columns.{below_next, column_le, few_columns, not_below}
use Rattle.ps_bench_trials.proofs.TallyAdding.{line_of, line_turned}
use Rattle.ps_bench_trials.proofs.Weighing.{not_less, not_more, total_le, total_one, total_same}
use Rattle.ps_bench_trials.proofs.Upto.{together}
use Rattle.ps_bench_trials.specs.Lines.{added_line, added_table, column_of, counted_in, more, no_trial}
use Rattle.ps_bench_trials.specs.Possible.{above, has_all, has_largest, has_least, has_most, is_possible, least_of, most_of, once, total, weighed}
use Rattle.ps_bench_trials.specs.declared.line.Line.{Line}

-- the counts, the sum and the largest latency of a line agree, but that it may have no trip
pub record Agrees (l : Line) : Type 0 where
  pub all : l.count ≡ min (weighed once l.table) last_count
  pub none : weighed (above (column_of l.largest)) l.table ≡ 0
  pub least : min (weighed least_of l.table + (l.largest - least_of (column_of l.largest))) last_count ≤ l.sum
  pub most : l.sum ≤ weighed (most_of l.largest) l.table

-- and it has one with the largest latency
pub record Fits (l : Line) : Type 0 where
  pub agrees : Agrees l
  pub some : 0 < slice_index l.table (column_of l.largest)

pub fits : (l : Line) → is_possible l ≡ true → Fits l
fits l is =
    let parts = and_parts (has_all l && has_largest l) (has_least l && has_most l) is in
    let counts = and_parts (has_all l) (has_largest l) parts.0 in
    let sums = and_parts (has_least l) (has_most l) parts.1 in
    let highest = and_parts (nat_lt 0 (slice_index l.table (column_of l.largest))) (weighed (above (column_of l.largest)) l.table == 0) counts.1 in
    record {
      agrees = record {
        all = eqb-true l.count (min (weighed once l.table) last_count) counts.0;
        none = eqb-true (weighed (above (column_of l.largest)) l.table) 0 highest.1;
        least = leb-true (min (weighed least_of l.table + (l.largest - least_of (column_of l.largest))) last_count) l.sum sums.0;
        most = leb-true l.sum (weighed (most_of l.largest) l.table) sums.1;
      };
      some = ltb-true 0 (slice_index l.table (column_of l.largest)) highest.0;
    }

pub possible : (l : Line) → Fits l → is_possible l ≡ true
possible l f =
    and_from (has_all l && has_largest l) (has_least l && has_most l)
    (and_from (has_all l) (has_largest l) (eq-eqb l.count (min (weighed once l.table) last_count) f.agrees.all)
    (and_from (nat_lt 0 (slice_index l.table (column_of l.largest))) (weighed (above (column_of l.largest)) l.table == 0)
    (lt-ltb 0 (slice_index l.table (column_of l.largest)) f.some) (eq-eqb (weighed (above (column_of l.largest)) l.table) 0 f.agrees.none)))
    (and_from (has_least l) (has_most l)
    (le-leb (min (weighed least_of l.table + (l.largest - least_of (column_of l.largest))) last_count) l.sum f.agrees.least)
    (le-leb l.sum (weighed (most_of l.largest) l.table) f.agrees.most))

-- ---- weights

-- fewer columns are above a later one
above_le : (h k c : ℕ) → h ≤ k → above k c ≤ above h c
above_le h k c later = by (cases_lt k c)
  where
    by : (k < c) ⊎ (c ≤ k) → above k c ≤ above h c
    by (inl over) =
        let first : above h c ≡ 1 = ap (λ (b : Bool). if b then 1 else 0) (lt-ltb h c (omega (arith, later, over))) in
        let second : above k c ≡ 1 = ap (λ (b : Bool). if b then 1 else 0) (lt-ltb k c over) in
        omega (arith, first, second)
    by (inr under) =
        let second : above k c ≡ 0 = ap (λ (b : Bool). if b then 1 else 0) (le-ltb k c under) in
        omega (arith, second)

-- a column has no smaller largest latency where the largest of all is larger
most_by : (last : Bool) (next x y : ℕ) → x ≤ y → (if last then min next x else x) ≤ (if last then min next y else y)
most_by true next x y less = omega (arith, less)
most_by false next x y less = less

most_le : (x y c : ℕ) → x ≤ y → most_of x c ≤ most_of y c
most_le x y c less = most_by (nat_lt c 32) (least_of (c + 1) - 1) x y less

weighed_le : (w v : ℕ → ℕ) (table : List ℕ) → ((c : ℕ) → w c ≤ v c) → weighed w table ≤ weighed v table
weighed_le w v table less =
    total_le (λ c. slice_index table c * w c) (λ c. slice_index table c * v c) 33 (λ c. mul-le-mul_left (slice_index table c) (less c))

-- ---- two lines together

-- the trips of a column
entry : (xs ys : List ℕ) (c : ℕ) → length xs ≡ length ys → get_or (together more xs ys) c 0 ≡ more (get_or xs c 0) (get_or ys c 0)
entry [] [] c size = refl
entry [] (y ∷ ys) c size = let no : ⊥ = omega (arith, size) in absurd no
entry (x ∷ xs) [] c size = let no : ⊥ = omega (arith, size) in absurd no
entry (x ∷ xs) (y ∷ ys) zero size = refl
entry (x ∷ xs) (y ∷ ys) (suc c) size = entry xs ys c (omega (arith, size))

both : (w : ℕ → ℕ) (xs ys : List ℕ) → length xs ≡ length ys →
    weighed w (added_table xs ys) ≡ total (λ c. more (slice_index xs c) (slice_index ys c) * w c) 33
both w xs ys size =
    total_same (λ c. slice_index (added_table xs ys) c * w c) (λ c. more (slice_index xs c) (slice_index ys c) * w c) 33
    (λ c. ap (λ (n : ℕ). n * w c) (entry xs ys c size))

module _ (a b : Line) (size : length a.table ≡ length b.table) where
  both_more : (w : ℕ → ℕ) → weighed w (added_table a.table b.table) ≤ weighed w a.table + weighed w b.table
  both_more w = omega (arith, both w a.table b.table size, not_more (slice_index a.table) (slice_index b.table) w 33)

  both_less : (w : ℕ → ℕ) → min (weighed w a.table + weighed w b.table) last_count ≤ weighed w (added_table a.table b.table)
  both_less w = omega (arith, both w a.table b.table size, not_less (slice_index a.table) (slice_index b.table) w 33)

  -- the second has the largest latency
  pub fits_behind : a.largest ≤ b.largest → Agrees a → Fits b → Fits (added_line a b)
  fits_behind less f g =
      let largest : b.largest ≡ max a.largest b.largest = omega (arith, less) in
      let none : weighed (above (column_of b.largest)) a.table ≤ weighed (above (column_of a.largest)) a.table =
      weighed_le (above (column_of b.largest)) (above (column_of a.largest)) a.table
      (λ c. above_le (column_of a.largest) (column_of b.largest) c (column_le a.largest b.largest less)) in
      let most : weighed (most_of a.largest) a.table ≤ weighed (most_of b.largest) a.table =
      weighed_le (most_of a.largest) (most_of b.largest) a.table (λ c. most_le a.largest b.largest c less) in
      subst (λ (n : ℕ). Fits (line_of (more a.count b.count) (more a.sum b.sum) n (added_table a.table b.table))) largest (record {
        agrees = record {
          all = omega (arith, f.all, g.agrees.all, both_more once, both_less once);
          none = omega (arith, f.none, none, g.agrees.none, both_more (above (column_of b.largest)));
          least = omega (arith, f.least, g.agrees.least, both_more least_of);
          most = omega (arith, f.most, most, g.agrees.most, both_less (most_of b.largest));
        };
        some = omega (arith, g.some, entry a.table b.table (column_of b.largest) size);
      })

pub fits_added : (a b : Line) → length a.table ≡ length b.table → Fits a → Fits b → Fits (added_line a b)
fits_added a b size f g = by (cases_lt b.largest a.largest)
  where
    by : (b.largest < a.largest) ⊎ (a.largest ≤ b.largest) → Fits (added_line a b)
    by (inl over) = subst Fits (line_turned b a) (fits_behind b a (sym size) (omega (arith, over)) g.agrees f)
    by (inr under) = fits_behind a b size under f.agrees g

-- no trip
none_agrees : Agrees no_trial
unfolding column_of
none_agrees = record { all = refl; none = refl; least = omega arith; most = omega arith }

pub fits_none : (b : Line) → length b.table ≡ 33 → Fits b → Fits (added_line no_trial b)
fits_none b size f = fits_behind no_trial b (sym size) (omega arith) none_agrees f

-- ---- one trip
abbrev zeros_of : ℕ → List ℕ
zeros_of n = replicate n 0

zero_at : (n c : ℕ) → get_or (zeros_of n) c 0 ≡ 0
zero_at zero c = refl
zero_at (suc n) zero = refl
zero_at (suc n) (suc c) = zero_at n c

module _ (x : ℕ) where
  abbrev zeros : List ℕ
  zeros = zeros_of 33

  abbrev table_of : List ℕ
  table_of = set zeros (column_of x) (more (get_or zeros (column_of x) 0) 1)

  one_here : get_or table_of (column_of x) 0 ≡ 1
  one_here =
      get_or-set_same zeros (column_of x) (more (get_or zeros (column_of x) 0) 1) 0 (few_columns x)
      ∙ ap (λ (n : ℕ). more n 1) (zero_at 33 (column_of x))

  none_there : (c : ℕ) → c ≢ column_of x → get_or table_of c 0 ≡ 0
  none_there c other = get_or-set_other zeros (column_of x) c (more (get_or zeros (column_of x) 0) 1) 0 other ∙ zero_at 33 c

  weighed_one : (w : ℕ → ℕ) → weighed w table_of ≡ w (column_of x)
  weighed_one w =
      let one : weighed w table_of ≡ get_or table_of (column_of x) 0 * w (column_of x) =
      total_one (λ c. slice_index table_of c * w c) 33 (column_of x) (few_columns x)
      (λ c other. ap (λ (n : ℕ). n * w c) (none_there c other) ∙ zero-mul (w c)) in
      let times : 1 * w (column_of x) ≡ w (column_of x) = omega arith in
      one ∙ ap (λ (n : ℕ). n * w (column_of x)) one_here ∙ times

  most_here : x ≤ most_of x (column_of x)
  most_here = by (cases_lt (column_of x) 32)
    where
      by : (column_of x < 32) ⊎ (32 ≤ column_of x) → x ≤ most_of x (column_of x)
      by (inl early) =
          let is : most_of x (column_of x) ≡ min (least_of (column_of x + 1) - 1) x =
          ap (λ (b : Bool). if b then min (least_of (column_of x + 1) - 1) x else x) (lt-ltb (column_of x) 32 early) in
          omega (arith, is, below_next x early)
      by (inr last) =
          let is : most_of x (column_of x) ≡ x =
          ap (λ (b : Bool). if b then min (least_of (column_of x + 1) - 1) x else x) (le-ltb (column_of x) 32 last) in
          omega (arith, is)

  none_above : above (column_of x) (column_of x) ≡ 0
  none_above = ap (λ (b : Bool). if b then 1 else 0) (le-ltb (column_of x) (column_of x) (omega arith))

  pub fits_one : Fits (counted_in no_trial (Some x))
  fits_one =
      let largest : x ≡ max 0 x = omega arith in
      subst (λ (n : ℕ). Fits (line_of (more 0 1) (more 0 x) n table_of)) largest (record {
        agrees = record {
          all = omega (arith, weighed_one once);
          none = weighed_one (above (column_of x)) ∙ none_above;
          least = omega (arith, weighed_one least_of, not_below x);
          most = omega (arith, weighed_one (most_of x), most_here);
        };
        some = omega (arith, one_here);
      })
