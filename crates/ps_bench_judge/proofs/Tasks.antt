-- What statements ask for, in parts: its items, its times and its faults.
use Rattle.std.proofs.Common.{◌≡◌, ◌∙◌, ◌++◌, ℕ, Bool, List, [], ◌∷◌, Option, Some, None, length, map, refl, sym, ap, subst, append_assoc, arith}
use Rattle.std.specs.Prelude.{All}
use Rattle.std.specs.List.{cons_option}
use Rattle.std.specs.List.Sorted.{IsNonDecreasing}
use Rattle.std.proofs.lemmas.List.{drop_at, take_at}
use Rattle.std.proofs.lemmas.List.Concat.{flat_map-append}
use Rattle.std.proofs.lemmas.List.Elements.{All-drop, All-take}
use Rattle.std.proofs.lemmas.List.Sorted.{IsNonDecreasingBy-drop}
use Rattle.ps_model.specs.declared.channel.Fault.{Fault as Strike}
use Rattle.ps_model.specs.Meaning.Item.{scan, restart}
use Rattle.ps_bench_cases.specs.declared.case.Act.{Act}
use Rattle.ps_bench_cases.specs.declared.case.Act.TheVariants.{Set, Scans, Restart, Fault, Expect}
use Rattle.ps_bench_cases.specs.declared.case.Statement.{Statement}
use Rattle.ps_bench_cases.specs.Meant.{fault_made, faults_in, items_from, items_made, set_by, times_in, times_made}
use Rattle.ps_bench_judge.specs.CaseRuns.{Task, makes, renews, looks, tasks_by, tasks_from, items_in}
use Rattle.ps_bench_judge.specs.Rigs.{RiseFrom, last_of, set_through, times_asked}

-- ---- items

items_in-append : (tasks more : List Task) → items_in (tasks ++ more) ≡ items_in tasks ++ items_in more
items_in-append [] more = refl
items_in-append (makes line now ins ∷ tasks) more = ap (λ items. scan now ins ∷ items) (items_in-append tasks more)
items_in-append (renews ∷ tasks) more = ap (λ items. restart ∷ items) (items_in-append tasks more)
items_in-append (looks line what ∷ tasks) more = items_in-append tasks more

-- scans at these times
items_made_at : (line : ℕ) (ins : List Bool) (times : List ℕ) → items_in (map (λ now. makes line now ins) times) ≡ map (λ now. scan now ins) times
items_made_at line ins [] = refl
items_made_at line ins (now ∷ times) = ap (λ items. scan now ins ∷ items) (items_made_at line ins times)

items_by : (line : ℕ) (ins : List Bool) (act : Act) → items_in (tasks_by line ins act) ≡ items_made ins act
items_by line ins (Scans pace) = items_made_at line ins _
items_by line ins Restart = refl
items_by line ins (Expect what) = refl
items_by line ins Set = refl
items_by line ins (Fault fault) = refl

-- The items among the tasks of statements are those of the statements.
pub items_in_tasks : (ins : List Bool) (statements : List Statement) → items_in (tasks_from ins statements) ≡ items_from ins statements
items_in_tasks ins [] = refl
items_in_tasks ins (s ∷ statements) =
    items_in-append (tasks_by s.line (set_by ins s.settings) s.act) (tasks_from (set_by ins s.settings) statements)
    ∙ (λ i. items_by s.line (set_by ins s.settings) s.act i ++ items_in_tasks (set_by ins s.settings) statements i)

-- ---- times

times_asked-append : (tasks more : List Task) → times_asked (tasks ++ more) ≡ times_asked tasks ++ times_asked more
times_asked-append [] more = refl
times_asked-append (makes line now ins ∷ tasks) more = ap (λ times. now ∷ times) (times_asked-append tasks more)
times_asked-append (renews ∷ tasks) more = times_asked-append tasks more
times_asked-append (looks line what ∷ tasks) more = times_asked-append tasks more

times_made_at : (line : ℕ) (ins : List Bool) (times : List ℕ) → times_asked (map (λ now. makes line now ins) times) ≡ times
times_made_at line ins [] = refl
times_made_at line ins (now ∷ times) = ap (λ later. now ∷ later) (times_made_at line ins times)

times_by : (line : ℕ) (ins : List Bool) (act : Act) → times_asked (tasks_by line ins act) ≡ times_made act
times_by line ins (Scans pace) = times_made_at line ins _
times_by line ins Restart = refl
times_by line ins (Expect what) = refl
times_by line ins Set = refl
times_by line ins (Fault fault) = refl

-- The times of the scans among the tasks of statements are those of the statements.
pub times_in_tasks : (ins : List Bool) (statements : List Statement) → times_asked (tasks_from ins statements) ≡ times_in statements
times_in_tasks ins [] = refl
times_in_tasks ins (s ∷ statements) =
    times_asked-append (tasks_by s.line (set_by ins s.settings) s.act) (tasks_from (set_by ins s.settings) statements)
    ∙ (λ i. times_by s.line (set_by ins s.settings) s.act i ++ times_in_tasks (set_by ins s.settings) statements i)

-- times that do not fall, one after another
pub rises : (t : ℕ) (times : List ℕ) → IsNonDecreasing (t ∷ times) → RiseFrom t times
rises t [] rising = tt
rises t (u ∷ times) rising = (rising 0 1 0 (omega arith) (omega arith), rises u times (IsNonDecreasingBy-drop (λ (n : ℕ). n) 1 (t ∷ u ∷ times) rising))

-- of times in two parts the first part rises
pub first_rises : (t : ℕ) (times more : List ℕ) → RiseFrom t (times ++ more) → RiseFrom t times
first_rises t [] more rising = tt
first_rises t (u ∷ times) more rising = (rising.0, first_rises u times more rising.1)

-- and the second part does from there on
pub rest_rises : (t : ℕ) (times more : List ℕ) → RiseFrom t (times ++ more) → RiseFrom (last_of t times) more
rest_rises t [] more rising = rising
rest_rises t (u ∷ times) more rising = rest_rises u times more rising.1

-- the last of times in two parts
pub last_of-append : (t : ℕ) (times more : List ℕ) → last_of t (times ++ more) ≡ last_of (last_of t times) more
last_of-append t [] more = refl
last_of-append t (u ∷ times) more = last_of-append u times more

-- ---- statements in two parts

pub tasks_from-append : (ins : List Bool) (first more : List Statement) →
    tasks_from ins (first ++ more) ≡ tasks_from ins first ++ tasks_from (set_through ins first) more
tasks_from-append ins [] more = refl
tasks_from-append ins (s ∷ first) more =
    ap (λ tasks. tasks_by s.line (set_by ins s.settings) s.act ++ tasks) (tasks_from-append (set_by ins s.settings) first more)
    ∙ sym (append_assoc (tasks_by s.line (set_by ins s.settings) s.act) (tasks_from (set_by ins s.settings) first) (tasks_from (set_through (set_by ins s.settings) first) more))

pub faults_in-append : (first more : List Statement) → faults_in (first ++ more) ≡ faults_in first ++ faults_in more
faults_in-append [] more = refl
faults_in-append (s ∷ first) more = go (fault_made s.act) (faults_in-append first more)
  where
    go : (o : Option Strike) → faults_in (first ++ more) ≡ faults_in first ++ faults_in more →
        cons_option o (faults_in (first ++ more)) ≡ cons_option o (faults_in first) ++ faults_in more
    go None e = e
    go (Some f) e = ap (λ faults. f ∷ faults) e

-- what holds of all of a list holds of its two parts
pub all_first : {X : Type 0} (P : X → Type 0) (first more : List X) → All P (first ++ more) → All P first
all_first P first more all = subst (λ (xs : List _). All P xs) (take_at first more (length first) refl) (All-take P (length first) (first ++ more) all)

pub all_rest : {X : Type 0} (P : X → Type 0) (first more : List X) → All P (first ++ more) → All P more
all_rest P first more all = subst (λ (xs : List _). All P xs) (drop_at first more (length first) refl) (All-drop P (length first) (first ++ more) all)

-- the times of statements in two parts
pub times_in-append : (first more : List Statement) → times_in (first ++ more) ≡ times_in first ++ times_in more
times_in-append first more = flat_map-append (λ (s : Statement). times_made s.act) first more

-- times of statements in two parts that rise from 0 on
pub both_rise : (first more : List Statement) → IsNonDecreasing (0 ∷ times_in (first ++ more)) → RiseFrom 0 (times_in first) × RiseFrom (last_of 0 (times_in first)) (times_in more)
both_rise first more rising =
    let all : RiseFrom 0 (times_in first ++ times_in more) = subst (λ (times : List ℕ). RiseFrom 0 times) (times_in-append first more) (rises 0 (times_in (first ++ more)) rising) in
    (first_rises 0 (times_in first) (times_in more) all, rest_rises 0 (times_in first) (times_in more) all)
