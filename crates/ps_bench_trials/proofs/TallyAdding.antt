-- Lists that are added place by place, and what is counted of trials in parts.
use Rattle.std.proofs.Common.{◌≡◌, ◌∙◌, ℕ, zero, suc, List, [], ◌∷◌, ◌++◌, Option, Some, None, max, get_or, set, refl, ap, arith}
use Rattle.ps_bench_trials.proofs.Upto.{together}
use Rattle.ps_bench_trials.specs.Lines.{added_line, column_of, counted_in, more, no_trial}
use Rattle.ps_bench_trials.specs.Outcomes.{latency_in, place_of}
use Rattle.ps_bench_trials.specs.declared.line.Line.{Line}
use Rattle.ps_bench_trials.specs.Adding.{added}
use Rattle.ps_bench_trials.specs.Laws.{IsOfAnyOrder, PartsAdd}
use Rattle.ps_bench_trials.specs.Tallies.{Result_of, all_counted, counted, none_counted}

-- ---- two lists together, place by place

-- what changes at a place of the first list changes there of both together
changed : {A : Type 0} (f : A → A → A) (g : A → A) → ((x y : A) → g (f x y) ≡ f (g x) y) → (xs ys : List A) (i : ℕ) (d : A) →
    set (together f xs ys) i (g (get_or (together f xs ys) i d)) ≡ together f (set xs i (g (get_or xs i d))) ys
changed f g swap [] ys i d = refl
changed f g swap (x ∷ xs) [] zero d = refl
changed f g swap (x ∷ xs) [] (suc i) d = refl
changed f g swap (x ∷ xs) (y ∷ ys) zero d = ap (λ z. z ∷ together f xs ys) (swap x y)
changed f g swap (x ∷ xs) (y ∷ ys) (suc i) d = ap (λ zs. f x y ∷ zs) (changed f g swap xs ys i d)

-- two lists are together the same the other way round
turned : {A : Type 0} (f : A → A → A) → ((x y : A) → f x y ≡ f y x) → (xs ys : List A) → together f xs ys ≡ together f ys xs
turned f same [] [] = refl
turned f same [] (y ∷ ys) = refl
turned f same (x ∷ xs) [] = refl
turned f same (x ∷ xs) (y ∷ ys) = λ i. same x y i ∷ turned f same xs ys i

-- and three lists in either grouping
grouped : {A : Type 0} (f : A → A → A) → ((x y z : A) → f (f x y) z ≡ f x (f y z)) → (xs ys zs : List A) →
    together f (together f xs ys) zs ≡ together f xs (together f ys zs)
grouped f same [] ys zs = refl
grouped f same (x ∷ xs) [] zs = refl
grouped f same (x ∷ xs) (y ∷ ys) [] = refl
grouped f same (x ∷ xs) (y ∷ ys) (z ∷ zs) = λ i. same x y z i ∷ grouped f same xs ys zs i

-- ---- two counts together

more_swap : (a b c : ℕ) → more (more a b) c ≡ more (more a c) b
more_swap a b c = omega arith

more_turned : (a b : ℕ) → more a b ≡ more b a
more_turned a b = omega arith

more_grouped : (a b c : ℕ) → more (more a b) c ≡ more a (more b c)
more_grouped a b c = omega arith

largest_swap : (a b c : ℕ) → max (max a b) c ≡ max (max a c) b
largest_swap a b c = omega arith

largest_turned : (a b : ℕ) → max a b ≡ max b a
largest_turned a b = omega arith

largest_grouped : (a b c : ℕ) → max (max a b) c ≡ max a (max b c)
largest_grouped a b c = omega arith

-- ---- two lines together

abbrev pub line_of : (count sum largest : ℕ) (table : List ℕ) → Line
line_of count sum largest table = record { count = count; sum = sum; largest = largest; table = table }

same_line : {a b c a' b' c' : ℕ} {t t' : List ℕ} → a ≡ a' → b ≡ b' → c ≡ c' → t ≡ t' → line_of a b c t ≡ line_of a' b' c' t'
same_line a b c t = λ i. line_of (a i) (b i) (c i) (t i)

-- a trial more in one of them is one more in both together
trial_more : (latency : Option ℕ) (x y : Line) → counted_in (added_line x y) latency ≡ added_line (counted_in x latency) y
trial_more None x y = same_line (more_swap x.count y.count 1) refl refl refl
trial_more (Some latency) x y =
    same_line (more_swap x.count y.count 1) (more_swap x.sum y.sum latency) (largest_swap x.largest y.largest latency)
    (changed more (λ n. more n 1) (λ a b. more_swap a b 1) x.table y.table (column_of latency) 0)

pub line_turned : (x y : Line) → added_line x y ≡ added_line y x
line_turned x y =
    same_line (more_turned x.count y.count) (more_turned x.sum y.sum) (largest_turned x.largest y.largest)
    (turned more more_turned x.table y.table)

line_grouped : (x y z : Line) → added_line (added_line x y) z ≡ added_line x (added_line y z)
line_grouped x y z =
    same_line (more_grouped x.count y.count z.count) (more_grouped x.sum y.sum z.sum) (largest_grouped x.largest y.largest z.largest)
    (grouped more more_grouped x.table y.table z.table)

pub any_order : IsOfAnyOrder
any_order = (turned added_line line_turned, grouped added_line line_grouped)

-- ---- what is counted of trials in parts

one_counted : (r : Result_of) (a b : List Line) →
    counted (added a b) r.channel r.region r.outcome ≡ added (counted a r.channel r.region r.outcome) b
one_counted r a b =
    changed added_line (λ l. counted_in l (latency_in r.outcome)) (trial_more (latency_in r.outcome)) a b
    (place_of r.channel r.region r.outcome) no_trial

each_counted : (rs : List Result_of) (a b : List Line) → all_counted (added a b) rs ≡ added (all_counted a rs) b
each_counted [] a b = refl
each_counted (r ∷ rs) a b =
    ap (λ ls. all_counted ls rs) (one_counted r a b) ∙ each_counted rs (counted a r.channel r.region r.outcome) b

one_behind : (rs ss : List Result_of) (a : List Line) → all_counted a (rs ++ ss) ≡ all_counted (all_counted a rs) ss
one_behind [] ss a = refl
one_behind (r ∷ rs) ss a = one_behind rs ss (counted a r.channel r.region r.outcome)

none_added : none_counted ≡ added none_counted none_counted
none_added = refl

pub parts_add : PartsAdd
parts_add rs ss =
    let first = all_counted none_counted rs in
    let second = all_counted none_counted ss in
    let still : first ≡ added first none_counted =
    ap (λ ls. all_counted ls rs) none_added ∙ each_counted rs none_counted none_counted in
    one_behind rs ss none_counted
    ∙ ap (λ ls. all_counted ls ss) (still ∙ turned added_line line_turned first none_counted)
    ∙ each_counted ss none_counted first
    ∙ turned added_line line_turned second first
