-- How a trace of cases stands after statements.
use Rattle.std.proofs.Common.{◌≡◌, ◌+◌, ◌++◌, ◌∙◌, ℕ, List, [], ◌∷◌, Bool, length, fold, refl, sym, ap, subst, arith}
use Rattle.std.specs.List.{All}
use Rattle.std.proofs.lemmas.List.{append_assoc, length-set, length-append, get_or_append_left, get_or-append-add}
use Rattle.ps_bench_names.specs.declared.name.Setting.{Setting}
use Rattle.ps_bench_cases.specs.declared.case.Act.{Act}
use Rattle.ps_bench_cases.specs.declared.case.Act.TheVariants as act
use Rattle.ps_bench_cases.specs.declared.case.Statement.{Statement}
use Rattle.ps_bench_cases.specs.declared.point.Point.{Point}
use Rattle.ps_bench_cases.specs.Meant.{set_by}
use Rattle.ps_bench_cases.specs.Expanded.{act_text, point_set, point_after, next_point, statements_text}

-- settings leave the number of inputs
pub set_size : (settings : List Setting) (ins : List Bool) → length (set_by ins settings) ≡ length ins
set_size [] ins = refl
set_size (x ∷ settings) ins = set_size settings _ ∙ length-set ins x.input x.value

after_size : (p : Point) (a : Act) → length (point_after p a).ins ≡ length p.ins
after_size p (act.Scans pace) = refl
after_size p (act.Fault fault) = refl
after_size p act.Set = refl
after_size p act.Restart = refl
after_size p (act.Expect what) = refl

after_base : (p : Point) (a : Act) → (point_after p a).base ≡ p.base
after_base p (act.Scans pace) = refl
after_base p (act.Fault fault) = refl
after_base p act.Set = refl
after_base p act.Restart = refl
after_base p (act.Expect what) = refl

-- so does a statement, and it leaves when the case begins
pub next_size : (p : Point) (s : Statement) → length (next_point p s).ins ≡ length p.ins
next_size p s = after_size (point_set p s.settings) s.act ∙ set_size s.settings p.ins

pub next_base : (p : Point) (s : Statement) → (next_point p s).base ≡ p.base
next_base p s = after_base (point_set p s.settings) s.act

pub all_size : (statements : List Statement) (p : Point) → length (fold next_point p statements).ins ≡ length p.ins
all_size [] p = refl
all_size (s ∷ statements) p = all_size statements (next_point p s) ∙ next_size p s

pub all_base : (statements : List Statement) (p : Point) → (fold next_point p statements).base ≡ p.base
all_base [] p = refl
all_base (s ∷ statements) p = all_base statements (next_point p s) ∙ next_base p s

-- statements after others
pub fold_behind : (xs ys : List Statement) (p : Point) → fold next_point p (xs ++ ys) ≡ fold next_point (fold next_point p xs) ys
fold_behind [] ys p = refl
fold_behind (x ∷ xs) ys p = fold_behind xs ys (next_point p x)

pub text_behind : (xs ys : List Statement) (p : Point) → statements_text p (xs ++ ys) ≡ statements_text p xs ++ statements_text (fold next_point p xs) ys
text_behind [] ys p = refl
text_behind (x ∷ xs) ys p =
    ap (λ (bytes : List ℕ). act_text (point_set p x.settings) x.act ++ bytes) (text_behind xs ys (next_point p x))
    ∙ sym (append_assoc (act_text (point_set p x.settings) x.act) (statements_text (next_point p x) xs) _)

-- what holds of all of two lists holds of each
pub all_front : {X : Type 0} (P : X → Type 0) (xs ys : List X) → All P (xs ++ ys) → All P xs
all_front P xs ys all k d within = subst P (get_or_append_left xs ys d k within) (all k d (omega (arith, length-append xs ys)))

pub all_back : {X : Type 0} (P : X → Type 0) (xs ys : List X) → All P (xs ++ ys) → All P ys
all_back P xs ys all k d within = subst P (get_or-append-add xs ys k d) (all (length xs + k) d (omega (arith, length-append xs ys)))
