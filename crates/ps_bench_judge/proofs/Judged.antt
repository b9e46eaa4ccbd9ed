-- What was told of a whole case are the failures of the run that it means.
use Rattle.std.proofs.Common.{◌≡◌, ◌∙◌, ◌++◌, ℕ, Bool, false, List, [], ◌∷◌, refl, sym, ap, subst, arith, append-nil}
use Rattle.std.specs.Prelude.{replicate}
use Rattle.std.specs.List.{list_all}
use Rattle.std.specs.List.Sorted.{IsNonDecreasing}
use Rattle.ps_model.specs.declared.channel.Fault.{Fault}
use Rattle.ps_model.specs.declared.report.Scan.{Scan}
use Rattle.ps_model.specs.Meaning.{Item, Runs, Meaning, nothing}
use Rattle.ps_model.specs.Network.{Network, input_count}
use Rattle.ps_model.specs.Scanning.{State}
use Rattle.ps_eqgen.proofs.SameSizes.{same_sizes}
use Rattle.ps_world.specs.Whole.{Setup, Whole, IsSetupOf}
use Rattle.ps_runs.specs.Resting.{answered}
use Rattle.ps_runs.proofs.ToCome.{Stands, first_stands}
use Rattle.ps_bench_cases.specs.declared.case.Statement.{Statement}
use Rattle.ps_bench_cases.specs.Meant.{faults_in, items_of, times_in}
use Rattle.ps_bench_judge.specs.declared.checks.Failure.{Failure}
use Rattle.ps_bench_judge.specs.declared.judge.Judge.{Judge}
use Rattle.ps_bench_judge.specs.declared.rig.Rig.{Rig}
use Rattle.ps_bench_judge.specs.CaseRuns.{IsJudged, PassesExactly, Task, events_in, events_of, failures_of, items_in, tasks_from, tasks_of}
use Rattle.ps_bench_judge.specs.Runs.{moments_of}
use Rattle.ps_bench_judge.specs.Holding.{Event, failures, no_scan}
use Rattle.ps_bench_judge.specs.Moments.{Moment}
use Rattle.ps_bench_judge.specs.Owing.{owed}
use Rattle.ps_bench_judge.specs.Rigs.{Goes, IsAt, IsFirst, Place, RiseFrom, events_left, seen_in, set_through, times_asked}
use Rattle.ps_bench_judge.proofs.Going.{goes_on}
use Rattle.ps_bench_judge.proofs.Tasks.{items_in_tasks, rises, tasks_from-append, times_in_tasks}

-- a list has no element where the test that none passes says the same of it as of one that has none
none_by : (xs ys : List Failure) → list_all (λ f. false) xs ≡ list_all (λ f. false) ys → xs ≡ [] → ys ≡ []
none_by xs [] e is = refl
none_by xs (y ∷ ys) e is = let told = ap (list_all (λ f. false)) is in cc

-- what never changes of an application's world is one
one_setup : (net : Network) (s t : Setup) → IsSetupOf net s → IsSetupOf net t → s ≡ t
one_setup net s t is is' =
    let sizes_are : s.sizes ≡ t.sizes =
    same_sizes s.sizes t.sizes (is.sizes.signals ∙ sym is'.sizes.signals) (is.sizes.instances ∙ sym is'.sizes.instances) (is.sizes.inputs ∙ sym is'.sizes.inputs)
    (is.sizes.outputs ∙ sym is'.sizes.outputs) (is.sizes.first_pins ∙ sym is'.sizes.first_pins) (is.sizes.kinds ∙ sym is'.sizes.kinds) in
    λ i. record {
      sizes = sizes_are i;
      image_a = (is.image_a ∙ sym is'.image_a) i;
      image_b = (is.image_b ∙ sym is'.image_b) i;
      budget_a = (is.budget_a ∙ sym is'.budget_a) i;
      budget_b = (is.budget_b ∙ sym is'.budget_b) i;
    }

module _ (net : Network) (statements : List Statement) (rig rig' : Rig) (judge judge' : Judge) (told : List Failure)
    (first : IsFirst net (faults_in statements) rig) (rising : IsNonDecreasing (0 ∷ times_in statements))
    (goes : Goes net (tasks_of net statements) rig judge [] rig' judge')
    (begins : (p : Failure → Bool) (events : List Event) → owed net p judge (no_scan net) events ≡ list_all p (failures net events))
    (ends : (p : Failure → Bool) (m : Moment) → m.now ≡ rig'.scan.now → owed net p judge' m [] ≡ list_all p told) where
  abbrev tasks : List Task
  tasks = tasks_of net statements

  abbrev world : Whole
  world = rig.performer.performer.world

  -- the items among its tasks are its items
  same_items : items_in tasks ≡ items_of net statements
  same_items = items_in_tasks (replicate (input_count net) false) statements

  time_is : rig.scan.now ≡ 0
  time_is = ap (λ (s : Scan). s.now) first.inputs

  first_rising : RiseFrom rig.scan.now (times_asked tasks)
  first_rising =
      subst (λ (t : ℕ). RiseFrom t (times_asked tasks)) (sym time_is)
      (subst (λ (times : List ℕ). RiseFrom 0 times) (sym (times_in_tasks (replicate (input_count net) false) statements)) (rises 0 (times_in statements) rising))

  first_stand : Stands (faults_in statements) 0 rig.performer.performer
  first_stand = subst (λ (faults : List Fault). Stands faults 0 rig.performer.performer) first.faults_are (first_stands net rig.performer.performer first.begins)

  module _ (ws : List State) (means : Meaning net (items_of net statements) ws) where
    abbrev first_place : Place
    first_place = record { done = 0; past = nothing; states = ws }

    first_at : IsAt net (faults_in statements) first_place tasks rig
    first_at = record {
      same = first_stand.same;
      counted = first_stand.counted;
      evaluator = first.evaluator;
      timely = omega arith;
      means = subst (λ (items : List Item). Runs net nothing items ws) (sym same_items) means;
      rising = first_rising;
    }

    same_events : events_left net (faults_in statements) first_place tasks rig ≡ events_of net world.setup statements ws
    same_events =
        (λ i. events_in tasks (moments_of net nothing (same_items i) (answered net (faults_in statements) 1 (same_items i) world) ws))
        ∙ (λ i. events_in tasks (moments_of net nothing (items_of net statements)
        (answered net (faults_in statements) 1 (items_of net statements) (record { setup = world.setup; state = first.begins.world.beginning i })) ws))

    same_failures : (p : Failure → Bool) → list_all p told ≡ list_all p (failures net (events_of net world.setup statements ws))
    same_failures p =
        let comes = goes (faults_in statements) first_place first_at in
        sym (ends p (seen_in rig') refl)
        ∙ sym (comes.owes p)
        ∙ ap (λ (m : Moment). owed net p judge m (events_left net (faults_in statements) first_place tasks rig)) first.seen
        ∙ begins p (events_left net (faults_in statements) first_place tasks rig)
        ∙ ap (λ (events : List Event). list_all p (failures net events)) same_events

  -- it is judged in the one world of the application
  pub judged : IsJudged net statements told
  judged setup setup_is ws means p =
      same_failures ws means p
      ∙ ap (λ (s : Setup). list_all p (failures_of net s statements ws)) (one_setup net world.setup setup first.begins.world.setup setup_is)

-- none was told exactly where there is none
pub passes_exactly : (net : Network) (statements : List Statement) (told : List Failure) → IsJudged net statements told → PassesExactly net statements told
passes_exactly net statements told judged setup setup_is ws means =
    let same = judged setup setup_is ws means (λ f. false) in (
      none_by told (failures_of net setup statements ws) same,
      none_by (failures_of net setup statements ws) told (sym same),
    )

-- what the file begins with, and then what the case says
pub goes_whole : (net : Network) (ins : List Bool) (begin own : List Statement) (rig mid last : Rig) (judge judge' judge'' : Judge) →
    ((later : List Task) → Goes net (tasks_from ins begin ++ later) rig judge later mid judge') →
    ((later : List Task) → Goes net (tasks_from (set_through ins begin) own ++ later) mid judge' later last judge'') →
    Goes net (tasks_from ins (begin ++ own)) rig judge [] last judge''
goes_whole net ins begin own rig mid last judge judge' judge'' first second =
    let rest = tasks_from (set_through ins begin) own ++ [] in
    subst (λ (tasks : List Task). Goes net tasks rig judge [] last judge'')
    (ap (λ (more : List Task). tasks_from ins begin ++ more) (append-nil (tasks_from (set_through ins begin) own)) ∙ sym (tasks_from-append ins begin own))
    (goes_on net (tasks_from ins begin ++ rest) rig judge rest mid judge' [] last judge'' (first rest) (second []))
