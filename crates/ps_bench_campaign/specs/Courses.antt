-- The course of a trace: its scans and restarts, with the report that each scan has without a fault.
use Rattle.std.specs.Prelude.{◌≡◌, ◌≤◌, ℕ, suc, false, List, [], ◌∷◌, length, map}
use Rattle.ps_bench_campaign.specs.declared.recorder.Course.{Course}
use Rattle.ps_bench_campaign.specs.declared.recorder.Recorder.{Recorder}
use Rattle.ps_bench_trials.specs.Steps.{items_in}
use Rattle.ps_bench_trials.specs.declared.step.Step.{Step}
use Rattle.ps_bench_trials.specs.declared.step.Step.TheVariants.{Scanned, Anew}
use Rattle.ps_model.specs.Meaning.{Item, scan, restart}
use Rattle.ps_model.specs.Network.{Network, input_count, instance_count}
use Rattle.ps_model.specs.declared.report.Report.{Report}
use Rattle.ps_world.specs.Answers.{Answer, answers}
use Rattle.ps_world.specs.Orders.{scan_events}
use Rattle.ps_world.specs.Steps.{after, world_step}
use Rattle.ps_world.specs.Whole.{Setup, Whole, IsSetupOf, machines_in}
use Rattle.ps_world.specs.Worlds.{Machines, World_state, Restart, world_0}

-- the reports of the scans of steps
abbrev pub meant_in : List Step → List Report
meant_in [] = []
meant_in (Scanned s meant ∷ steps) = meant ∷ meant_in steps
meant_in (Anew ∷ steps) = meant_in steps

-- how many scans there are among items
abbrev pub scan_count : List Item → ℕ
scan_count [] = 0
scan_count (restart ∷ items) = scan_count items
scan_count (scan now ins ∷ items) = suc (scan_count items)

-- the reports of answers
abbrev pub reports_of : List Answer → List Report
reports_of = map (λ (a : Answer). a.report)

-- the reports that a run over these items gives from where a world stands, where no fault strikes
abbrev pub quiet_reports : Network → Machines → List Item → World_state → List Report
quiet_reports net m items x = reports_of (answers m (length net.outputs) (instance_count net) [] 1 items x)

-- Steps that a world can run: each scan has a value for each input and a report of the application's sizes, and a time
-- that is not earlier than that of the scan before.
abbrev pub AreStepsFor : Network → (latest : ℕ) → List Step → Type 0
AreStepsFor net latest [] = Unit {0}
AreStepsFor net latest (Anew ∷ steps) = AreStepsFor net latest steps
AreStepsFor net latest (Scanned s meant ∷ steps) =
    (latest ≤ s.now) × (length s.ins ≡ input_count net)
    × (length meant.outs ≡ length net.outputs) × (length meant.diags ≡ instance_count net)
    × AreStepsFor net s.now steps

-- A course: a world can run its steps, and their reports are those of the run without a fault.
pub record IsCourse (net : Network) (c : Course) : Type 0 where
  pub fits : AreStepsFor net 0 c.steps.items
  pub meant : (setup : Setup) → IsSetupOf net setup →
      meant_in c.steps.items ≡ quiet_reports net (machines_in setup) (items_in c.steps.items) (world_0 (machines_in setup))
  pub count : c.scans ≡ scan_count (items_in c.steps.items)

-- ---- While a course is recorded.

-- the time of the last scan of these steps, and this one where there is none
abbrev pub latest_in : (latest : ℕ) → List Step → ℕ
latest_in latest [] = latest
latest_in latest (Anew ∷ steps) = latest_in latest steps
latest_in latest (Scanned s meant ∷ steps) = latest_in s.now steps

-- the world after items that no fault strikes
abbrev pub behind : Machines → List Item → World_state → World_state
behind m [] x = x
behind m (restart ∷ items) x = behind m items (world_step m Restart x)
behind m (scan now ins ∷ items) x = behind m items (after m (scan_events m [] now ins x) x)

-- What was recorded so far in this world: it stands after these steps, and their reports are those that it gave.
pub record AreRecorded (net : Network) (w : Whole) (steps : List Step) (scans : ℕ) : Type 0 where
  pub setup : IsSetupOf net w.setup
  pub rest : w.state.begun ≡ false
  pub last : w.state.last ≤ latest_in 0 steps
  pub fits : AreStepsFor net 0 steps
  pub state : w.state ≡ behind (machines_in w.setup) (items_in steps) (world_0 (machines_in w.setup))
  pub meant : meant_in steps ≡ quiet_reports net (machines_in w.setup) (items_in steps) (world_0 (machines_in w.setup))
  pub count : scans ≡ length (meant_in steps)

-- the same of a recorder
abbrev pub IsRecorder : Network → Recorder → Type 0
IsRecorder net r = AreRecorded net r.world r.course.steps.items r.course.scans
