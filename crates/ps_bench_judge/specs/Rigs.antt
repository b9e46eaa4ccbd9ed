-- The rig of a case: what it has, where it stands between two scans, and what comes of the tasks that are left.
use Rattle.std.specs.Prelude.{◌≡◌, ◌⊎◌, ◌≤◌, ◌<◌, ℕ, suc, All, Bool, List, [], ◌∷◌, false, length, replicate}
use Rattle.ps_model.specs.declared.channel.Fault.{Fault}
use Rattle.ps_model.specs.Meaning.{Past, Runs, last_time, nothing}
use Rattle.ps_model.specs.Meaning.Item.{scan, restart}
use Rattle.ps_model.specs.Network.{Network, input_count, instance_count, signal_count}
use Rattle.ps_model.specs.Scanning.{State}
use Rattle.ps_world.specs.Orders.{of_scan}
use Rattle.ps_runs.specs.Outcomes.{performed, anew}
use Rattle.ps_runs.specs.Performing.{IsStruckWorldFor, Performs, to_come}
use Rattle.ps_runs.specs.Resting.{answered}
use Rattle.ps_runs.specs.Running.{IsBeginning}
use Rattle.ps_runs.specs.Watching.{Evaluates, IsWatchedFor, StandsAt}
use Rattle.ps_bench_names.specs.declared.name.Setting.{Setting}
use Rattle.ps_bench_cases.specs.declared.case.Statement.{Statement}
use Rattle.ps_bench_cases.specs.Meant.{set_by}
use Rattle.ps_bench_judge.specs.declared.checks.Failure.{Failure}
use Rattle.ps_bench_judge.specs.declared.judge.Judge.{Judge}
use Rattle.ps_bench_judge.specs.declared.rig.Rig.{Rig}
use Rattle.ps_bench_judge.specs.CaseRuns.{Task, makes, renews, looks, items_in, events_in}
use Rattle.ps_bench_judge.specs.Runs.{moments_of}
use Rattle.ps_bench_judge.specs.Holding.{Event, no_scan}
use Rattle.ps_bench_judge.specs.Moments.{Moment}
use Rattle.ps_bench_judge.specs.Owing.{owed}

-- A rig has the application's sizes, and its next scan may be as early as the last one.
pub record IsRigFor (net : Network) (rig : Rig) : Type 0 where
  pub performer : IsWatchedFor IsStruckWorldFor net rig.performer
  pub due : rig.performer.performer.world.state.last ≤ rig.scan.now
  pub inputs : length rig.scan.ins ≡ input_count net
  pub outputs : length rig.report.outs ≡ length net.outputs
  pub diagnoses : length rig.report.diags ≡ instance_count net
  pub before : length rig.before.items ≡ signal_count net
  pub signals : length rig.signals.items ≡ signal_count net

-- what a rig has seen of the last scan
abbrev pub seen_in : Rig → Moment
seen_in rig = record {
  now = rig.scan.now;
  verdict = rig.verdict;
  report = rig.report;
  before = rig.before.items;
  signals = rig.signals.items;
}

-- A rig is at the beginning: a world of the application at the beginning, which these faults will strike; and nothing
-- was seen.
pub record IsFirst (net : Network) (faults : List Fault) (rig : Rig) : Type 0 where
  pub begins : IsBeginning net rig.performer.performer
  pub faults_are : rig.performer.performer.faults ≡ faults
  pub evaluator : StandsAt net nothing rig.performer.evaluator
  pub inputs : rig.scan ≡ record { now = 0; ins = replicate (input_count net) false }
  pub seen : seen_in rig ≡ no_scan net

-- A scan was made at this time: by the world, and by the evaluator beside it, of whose signals copies were taken.
pub record RigScans (net : Network) (now : ℕ) (rig rig' : Rig) : Type 0 where
  pub performs : Performs net rig.performer.performer (scan now rig.scan.ins) (performed now rig'.verdict rig'.report)
      rig'.performer.performer
  pub evaluates : Evaluates net rig.performer.evaluator now rig.scan.ins rig'.performer.meant rig'.performer.evaluator
  pub scan_is : rig'.scan ≡ record { now = now; ins = rig.scan.ins }
  pub before : rig'.before.items ≡ rig'.performer.evaluator.before.signals
  pub signals : rig'.signals.items ≡ rig'.performer.evaluator.behind.signals

-- All began anew: the world and the evaluator did, and what was seen stays.
pub record RigRestarts (net : Network) (rig rig' : Rig) : Type 0 where
  pub performs : Performs net rig.performer.performer restart anew rig'.performer.performer
  pub evaluator : StandsAt net nothing rig'.performer.evaluator
  pub scan_stays : rig'.scan ≡ rig.scan
  pub seen_stays : seen_in rig' ≡ seen_in rig

-- these times do not fall, and none is before this one
abbrev pub RiseFrom : ℕ → List ℕ → Type 0
RiseFrom t [] = Unit {0}
RiseFrom t (u ∷ times) = (t ≤ u) × RiseFrom u times

-- the last of these times, or the one before them where there are none
abbrev pub last_of : ℕ → List ℕ → ℕ
last_of t [] = t
last_of t (u ∷ times) = last_of u times

-- a line sets inputs alone
abbrev pub SetsInputs : Network → Statement → Type 0
SetsInputs net s = All (λ (setting : Setting). setting.input < input_count net) s.settings

-- inputs after statements
abbrev pub set_through : List Bool → List Statement → List Bool
set_through ins [] = ins
set_through ins (s ∷ statements) = set_through (set_by ins s.settings) statements

-- the times of the scans among tasks
abbrev pub times_asked : List Task → List ℕ
times_asked [] = []
times_asked (makes line now ins ∷ tasks) = now ∷ times_asked tasks
times_asked (renews ∷ tasks) = times_asked tasks
times_asked (looks line what ∷ tasks) = times_asked tasks

-- Where a run stands between two scans: so many were made, the next one starts from this, and these are the states that
-- the scans to come mean.
pub record Place : Type 0 where
  pub done : ℕ
  pub past : Past
  pub states : List State

-- A rig stands at a place of a run that these faults strike, and these tasks are left.
pub record IsAt (net : Network) (faults : List Fault) (place : Place) (tasks : List Task) (rig : Rig) : Type 0 where
  pub same : (n : ℕ) → place.done < n → of_scan n (to_come rig.performer.performer) ≡ of_scan n faults
  pub counted : (to_come rig.performer.performer ≡ []) ⊎ (rig.performer.performer.scans ≡ place.done)
  pub evaluator : StandsAt net place.past rig.performer.evaluator
  pub timely : last_time place.past ≤ rig.scan.now
  pub means : Runs net place.past (items_in tasks) place.states
  pub rising : RiseFrom rig.scan.now (times_asked tasks)

-- the events of the tasks that are left
abbrev pub events_left : Network → List Fault → Place → List Task → Rig → List Event
events_left net faults place tasks rig =
    events_in tasks (moments_of net place.past (items_in tasks)
    (answered net faults (suc place.done) (items_in tasks) rig.performer.performer.world) place.states)

-- The rig of a case comes to another place, where other tasks are left, and its judge owes just what it owed.
pub record Comes (net : Network) (faults : List Fault) (place : Place) (tasks : List Task) (rig : Rig) (judge : Judge)
    (later : List Task) (rig' : Rig) (judge' : Judge) : Type 0 where
  pub place' : Place
  pub at : IsAt net faults place' later rig'
  pub owes : (p : Failure → Bool) → owed net p judge (seen_in rig) (events_left net faults place tasks rig)
      ≡ owed net p judge' (seen_in rig') (events_left net faults place' later rig')

-- From wherever these tasks are left, and whatever faults strike, a rig and a judge come to where those are left.
abbrev pub Goes : Network → List Task → Rig → Judge → List Task → Rig → Judge → Type 0
Goes net tasks rig judge later rig' judge' =
    (faults : List Fault) (place : Place) → IsAt net faults place tasks rig →
    Comes net faults place tasks rig judge later rig' judge'
