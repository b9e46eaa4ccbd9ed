-- How a rig and its judge come from one place of a run to another.
use Rattle.std.proofs.Common.{◌≡◌, ◌⊎◌, ◌≤◌, ◌∙◌, ℕ, suc, Bool, List, [], ◌∷◌, length, refl, sym, ap, subst, arith}
use Rattle.ps_model.specs.declared.channel.Fault.{Fault}
use Rattle.ps_model.specs.declared.channel.Verdict.{Verdict}
use Rattle.ps_model.specs.declared.report.Report.{Report}
use Rattle.ps_model.specs.declared.report.Scan.{Scan}
use Rattle.ps_model.specs.Meaning.{Past, last, last_time, nothing, old_state, passed}
use Rattle.ps_model.specs.Network.{Network, instance_count}
use Rattle.ps_model.specs.Scanning.{State}
use Rattle.ps_model.specs.Sound.{IsSound}
use Rattle.ps_model.proofs.OneSolution.{has_one_solution}
use Rattle.ps_world.specs.Answers.{Answer}
use Rattle.ps_world.specs.Orders.{at_compare, of_scan, scan_events}
use Rattle.ps_world.specs.Verdicts.{verdict, report_given}
use Rattle.ps_world.specs.Whole.{Whole, machines_in, after_events}
use Rattle.ps_runs.specs.Outcomes.{Outcome, performed, refuses, anew}
use Rattle.ps_runs.specs.Performing.{due, to_come}
use Rattle.ps_runs.specs.Resting.{answered}
use Rattle.ps_runs.specs.Watching.{StandsAt}
use Rattle.ps_runs.specs.declared.striking.StruckWorld.{StruckWorld}
use Rattle.ps_runs.proofs.ToCome.{Stands, due_of_scan, stands_behind}
use Rattle.ps_bench_cases.specs.declared.case.Expectation.{Expectation}
use Rattle.ps_bench_judge.specs.declared.checks.Failure.{Failure}
use Rattle.ps_bench_judge.specs.declared.judge.Judge.{Judge}
use Rattle.ps_bench_judge.specs.declared.rig.Rig.{Rig}
use Rattle.ps_bench_judge.specs.CaseRuns.{Task, makes, renews, looks, items_in, events_in}
use Rattle.ps_bench_judge.specs.Runs.{seen_as, moments_of}
use Rattle.ps_bench_judge.specs.Holding.{AreFrom, Event, expects, moments, scanned}
use Rattle.ps_bench_judge.specs.Moments.{Moment}
use Rattle.ps_bench_judge.specs.Owing.{owed}
use Rattle.ps_bench_judge.specs.Rigs.{Comes, Goes, IsAt, RigScans, Place, RigRestarts, RiseFrom, events_left, seen_in, times_asked}

-- where times do not fall, neither do those of the scans that are seen
from_rising : (net : Network) (tasks : List Task) (t : ℕ) (past : Past) (answers : List Answer) (ws : List State) →
    RiseFrom t (times_asked tasks) → AreFrom t (moments (events_in tasks (moments_of net past (items_in tasks) answers ws)))
from_rising net [] t past answers ws rising = tt
from_rising net (makes line now ins ∷ tasks) t past [] ws rising = tt
from_rising net (makes line now ins ∷ tasks) t past (a ∷ answers) [] rising = tt
from_rising net (makes line now ins ∷ tasks) t past (a ∷ answers) (w ∷ ws) rising =
    (rising.0, from_rising net tasks now (last now w) answers ws rising.1)
from_rising net (renews ∷ tasks) t past answers ws rising = from_rising net tasks t nothing answers ws rising
from_rising net (looks line what ∷ tasks) t past answers ws rising = from_rising net tasks t past answers ws rising

-- ---- no task, and tasks one after another

pub goes_nowhere : (net : Network) (tasks : List Task) (rig : Rig) (judge : Judge) → Goes net tasks rig judge tasks rig judge
goes_nowhere net tasks rig judge = λ faults place at. record { place' = place; at = at; owes = λ p. refl }

pub goes_on : (net : Network) (tasks : List Task) (rig : Rig) (judge : Judge) (mid : List Task) (rig' : Rig) (judge' : Judge) (later : List Task) (rig'' : Rig) (judge'' : Judge) →
    Goes net tasks rig judge mid rig' judge' → Goes net mid rig' judge' later rig'' judge'' → Goes net tasks rig judge later rig'' judge''
goes_on net tasks rig judge mid rig' judge' later rig'' judge'' first second = λ faults place at.
    let one = first faults place at in
    let two = second faults one.place' one.at in
    record { place' = two.place'; at = two.at; owes = λ p. one.owes p ∙ two.owes p }

-- the inputs that are set are no part of where a rig stands
pub goes_set : (net : Network) (tasks : List Task) (rig : Rig) (ins : List Bool) (judge : Judge) (later : List Task) (rig' : Rig) (judge' : Judge) →
    Goes net tasks (record rig { scan = record { now = rig.scan.now; ins = ins } }) judge later rig' judge' → Goes net tasks rig judge later rig' judge'
goes_set net tasks rig ins judge later rig' judge' goes = λ faults place at.
    let comes = goes faults place (record {
      same = at.same;
      counted = at.counted;
      evaluator = at.evaluator;
      timely = at.timely;
      means = at.means;
      rising = at.rising;
    }) in
    record { place' = comes.place'; at = comes.at; owes = comes.owes }

-- ---- a look at the scan before

pub goes_look : (net : Network) (line : ℕ) (what : Expectation) (rig : Rig) (judge judge' : Judge) →
    ((p : Failure → Bool) (events : List Event) → AreFrom rig.scan.now (moments events) →
    owed net p judge (seen_in rig) (expects line what.window what.checks ∷ events) ≡ owed net p judge' (seen_in rig) events) →
    (later : List Task) → Goes net (looks line what ∷ later) rig judge later rig judge'
goes_look net line what rig judge judge' step later = λ faults place at. record {
  place' = place;
  at = record {
    same = at.same;
    counted = at.counted;
    evaluator = at.evaluator;
    timely = at.timely;
    means = at.means;
    rising = at.rising;
  };
  owes = λ p. step p (events_left net faults place later rig)
      (from_rising net later rig.scan.now place.past
      (answered net faults (suc place.done) (items_in later) rig.performer.performer.world) place.states at.rising);
}

-- ---- a restart

pub goes_restart : (net : Network) (rig rig' : Rig) (judge : Judge) → RigRestarts net rig rig' → (later : List Task) →
    Goes net (renews ∷ later) rig judge later rig' judge
goes_restart net rig rig' judge restarts later = λ faults place at.
    let place' : Place = record { done = place.done; past = nothing; states = place.states } in
    let world_is = restarts.performs.1 in
    record {
      place' = place';
      at = record {
        same = λ n lt. ap (λ (p : StruckWorld). of_scan n (to_come p)) world_is ∙ at.same n lt;
        counted = subst (λ (p : StruckWorld). (to_come p ≡ []) ⊎ (p.scans ≡ place.done)) (sym world_is) at.counted;
        evaluator = restarts.evaluator;
        timely = omega arith;
        means = at.means;
        rising = subst (λ (t : ℕ). RiseFrom t (times_asked later)) (sym (ap (λ (s : Scan). s.now) restarts.scan_stays)) at.rising;
      };
      owes = λ p. (λ i. owed net p judge (sym restarts.seen_stays i)
          (events_in later (moments_of net nothing (items_in later)
          (answered net faults (suc place.done) (items_in later) (sym world_is i).world) place.states)));
    }

-- ---- a scan

-- the verdict and the report of an outcome that was performed
abbrev verdict_in : Verdict → Outcome Verdict → Verdict
verdict_in other (performed now v report) = v
verdict_in other (refuses refusal) = other
verdict_in other anew = other

abbrev report_in : Report → Outcome Verdict → Report
report_in other (performed now v report) = report
report_in other (refuses refusal) = other
report_in other anew = other

module _ (net : Network) (sound : IsSound net) (line now : ℕ) (rig rig' : Rig) (judge judge' : Judge) (makes_it : RigScans net now rig rig')
    (step : (p : Failure → Bool) (m : Moment) (events : List Event) → AreFrom rig'.scan.now (moments events) →
    owed net p judge m (scanned line (seen_in rig') ∷ events) ≡ owed net p judge' (seen_in rig') events) where
  -- the world before the scan, and its answer and what is after it, where these faults strike it
  abbrev world : Whole
  world = rig.performer.performer.world

  abbrev answer_by : List Fault → Answer
  answer_by struck =
      let z = at_compare (machines_in world.setup) struck now rig.scan.ins world.state in
      record { verdict = verdict (machines_in world.setup) z; report = report_given (machines_in world.setup) (length net.outputs) (instance_count net) z }

  abbrev behind : List Fault → Whole
  behind struck = after_events (scan_events (machines_in world.setup) struck now rig.scan.ins world.state) world

  -- the answer of the scan is what was seen of it
  answer_is : answer_by (due rig.performer.performer) ≡ record { verdict = rig'.verdict; report = rig'.report }
  answer_is = λ i. record {
    verdict = verdict_in rig'.verdict (sym makes_it.performs.compares i);
    report = report_in rig'.report (sym makes_it.performs.compares i);
  }

  module _ (faults : List Fault) (later : List Task) (done : ℕ) (past : Past) (w : State) (ws : List State)
      (at : IsAt net faults (record { done = done; past = past; states = w ∷ ws }) (makes line now rig.scan.ins ∷ later) rig) where
    stands : Stands faults done rig.performer.performer
    stands = record { same = at.same; counted = at.counted }

    same_due : of_scan (suc done) faults ≡ due rig.performer.performer
    same_due = sym (due_of_scan faults done rig.performer.performer stands)

    stands_then : Stands faults (suc done) rig'.performer.performer
    stands_then = stands_behind faults done rig.performer.performer rig'.performer.performer stands makes_it.performs.leaves makes_it.performs.counts

    not_before : last_time past ≤ now
    not_before = let first = at.timely in let second = at.rising.0 in omega arith

    abbrev place' : Place
    place' = record { done = suc done; past = last now w; states = ws }

    scanned_to : Comes net faults (record { done = done; past = past; states = w ∷ ws }) (makes line now rig.scan.ins ∷ later) rig judge later rig' judge'
    scanned_to =
        let next = makes_it.evaluates past at.evaluator not_before in
        let one = has_one_solution net sound (old_state net past) rig.scan.ins (passed past now) in
        let state_is : next.state ≡ w = one.only next.state next.solves ∙ sym (one.only w at.means.0) in
        let time_is : rig'.scan.now ≡ now = ap (λ (s : Scan). s.now) makes_it.scan_is in
        let rising : RiseFrom rig'.scan.now (times_asked later) = subst (λ (t : ℕ). RiseFrom t (times_asked later)) (sym time_is) at.rising.1 in
        let before_is : rig'.before.items ≡ (old_state net past).signals = makes_it.before ∙ next.before.signals in
        let behind_is : rig'.signals.items ≡ w.signals = makes_it.signals ∙ next.stands.state.signals ∙ ap (λ (s : State). s.signals) state_is in
        let answer_here : answer_by (of_scan (suc done) faults) ≡ record { verdict = rig'.verdict; report = rig'.report } = ap answer_by same_due ∙ answer_is in
        let seen : seen_as net past now (answer_by (of_scan (suc done) faults)) w ≡ seen_in rig' = λ i. record {
          now = sym time_is i;
          verdict = (answer_here i).verdict;
          report = (answer_here i).report;
          before = sym before_is i;
          signals = sym behind_is i;
        } in
        let world_is : behind (of_scan (suc done) faults) ≡ rig'.performer.performer.world = ap behind same_due ∙ sym makes_it.performs.happens in
        record {
          place' = place';
          at = record {
            same = stands_then.same;
            counted = stands_then.counted;
            evaluator = subst (λ (s : State). StandsAt net (last now s) rig'.performer.evaluator) state_is next.stands;
            timely = omega (arith, time_is);
            means = at.means.1;
            rising = rising;
          };
          owes = λ p. (λ i. owed net p judge (seen_in rig) (scanned line (seen i) ∷ events_in later (moments_of net (last now w) (items_in later)
              (answered net faults (suc (suc done)) (items_in later) (world_is i)) ws)))
              ∙ step p (seen_in rig) (events_left net faults place' later rig')
              (from_rising net later rig'.scan.now (last now w) (answered net faults (suc (suc done)) (items_in later) rig'.performer.performer.world) ws rising);
        }

  pub goes_scan : (later : List Task) → Goes net (makes line now rig.scan.ins ∷ later) rig judge later rig' judge'
  goes_scan later = λ faults place at. go faults place.done place.past place.states at
    where
      go : (faults : List Fault) (done : ℕ) (past : Past) (states : List State) →
          IsAt net faults (record { done = done; past = past; states = states }) (makes line now rig.scan.ins ∷ later) rig →
          Comes net faults (record { done = done; past = past; states = states }) (makes line now rig.scan.ins ∷ later) rig judge later rig' judge'
      go faults done past [] at = absurd at.means
      go faults done past (w ∷ ws) at = scanned_to faults later done past w ws at
