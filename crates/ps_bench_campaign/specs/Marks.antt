-- Moments of the run of a course without a fault. There the run with a fault may begin, and there it may end.
use Rattle.std.specs.Prelude.{◌≡◌, ◌-◌, ◌<◌, ◌≤◌, ◌^◌, ℕ, suc, false, List, [], ◌∷◌, length, drop}
use Rattle.std.specs.List.{All}
use Rattle.ps_bench_campaign.specs.Courses.{AreStepsFor, meant_in}
use Rattle.ps_bench_trials.specs.Steps.{items_in}
use Rattle.ps_bench_trials.specs.declared.step.Step.{Step}
use Rattle.ps_bench_trials.specs.declared.step.Step.TheVariants.{Scanned, Anew}
use Rattle.ps_model.specs.Network.{Network, instance_count}
use Rattle.ps_model.specs.declared.channel.Fault.{Fault}
use Rattle.ps_model.specs.declared.channel.Verdict.TheVariants.{Released}
use Rattle.ps_bench_trials.specs.declared.outcome.Outcome.{Outcome}
use Rattle.ps_world.specs.Answers.{answers}
use Rattle.ps_world.specs.Orders.{at_compare, scan_events}
use Rattle.ps_world.specs.Steps.{after, world_step}
use Rattle.ps_world.specs.Verdicts.{report_given, verdict}
use Rattle.ps_world.specs.Whole.{Whole, IsSetupOf, after_events, happened, machines_in}
use Rattle.ps_world.specs.Worlds.{Machines, World_state, Restart, world_0}
use Rattle.ps_bench_campaign.specs.Showing.{shown}
use Rattle.ps_bench_trials.specs.declared.mark.Mark.{Mark}
use Rattle.ps_bench_campaign.specs.declared.marks.Marks.{Marks}

-- the time of a scan has 32 bits
abbrev pub IsShort : Step → Type 0
IsShort Anew = Unit {0}
IsShort (Scanned s meant) = s.now < 2 ^ 32

-- the world after a step that no fault strikes
abbrev pub passed : Step → Whole → Whole
passed Anew w = happened Restart w
passed (Scanned s meant) w = after_events (scan_events (machines_in w.setup) [] s.now s.ins w.state) w

-- how many scans a step is
abbrev pub scans_of : Step → ℕ
scans_of Anew = 0
scans_of (Scanned s meant) = 1

module _ (m : Machines) (outputs instances : ℕ) where
  -- Without a fault these steps go on from where a world stands as they were recorded: each scan is released, with the
  -- report that its step has.
  abbrev pub GoQuietly : List Step → World_state → Type 0
  GoQuietly [] x = Unit {0}
  GoQuietly (Anew ∷ steps) x = GoQuietly steps (world_step m Restart x)
  GoQuietly (Scanned s meant ∷ steps) x =
      (verdict m (at_compare m [] s.now s.ins x) ≡ Released)
      × (report_given m outputs instances (at_compare m [] s.now s.ins x) ≡ meant)
      × GoQuietly steps (after m (scan_events m [] s.now s.ins x) x)

  -- what these steps show from where a world stands, after so many scans, in the run that these faults strike
  abbrev pub shown_from : (faults : List Fault) → (struck scans : ℕ) → List Step → World_state → Outcome
  shown_from faults struck scans steps x =
      shown struck (items_in steps) (meant_in steps) (answers m outputs instances faults (suc scans) (items_in steps) x)

-- A moment of the run of all these steps without a fault: so many scans are done, the steps are those that are left, and
-- this is the world. They go on quietly; and a fault that strikes no scan that is done shows in them what it shows in
-- all.
pub record IsMoment (net : Network) (all steps : List Step) (scans : ℕ) (w : Whole) : Type 0 where
  pub setup : IsSetupOf net w.setup
  pub rest : w.state.begun ≡ false
  pub fits : AreStepsFor net w.state.last steps
  pub quiet : GoQuietly (machines_in w.setup) (length net.outputs) (instance_count net) steps w.state
  pub same : (f : Fault) (struck : ℕ) → scans ≤ f.scan - 1 →
      shown_from (machines_in w.setup) (length net.outputs) (instance_count net) (f ∷ []) struck 0 all
      (world_0 (machines_in w.setup))
      ≡ shown_from (machines_in w.setup) (length net.outputs) (instance_count net) (f ∷ []) struck scans steps w.state

-- A mark of these steps: it stands at its place among them, and its world is that of this moment.
pub record IsMark (net : Network) (all : List Step) (mark : Mark) : Type 0 where
  pub within : mark.place ≤ length all
  pub few : mark.scans ≤ mark.place
  pub moment : IsMoment net all (drop mark.place all) mark.scans mark.world

-- The marks of these steps, of which the first stands at the beginning.
pub record AreMarks (net : Network) (all : List Step) (marks : Marks) : Type 0 where
  pub first : IsMark net all marks.first
  pub beginning : marks.first.scans ≡ 0
  pub later : All (IsMark net all) marks.later.items
  pub apart : 0 < marks.every
