-- What a run answers, scan by scan, and that it is right.
use Rattle.std.specs.Prelude.{◌≡◌, ℕ, suc, false, List, [], ◌∷◌, length}
use Rattle.ps_model.specs.declared.channel.Channel.{Channel}
use Rattle.ps_model.specs.declared.channel.Fault.{Fault}
use Rattle.ps_model.specs.declared.channel.Verdict.{Verdict}
use Rattle.ps_model.specs.declared.channel.Verdict.TheVariants.{Released}
use Rattle.ps_model.specs.declared.report.Report.{Report}
use Rattle.ps_model.specs.Network.{Network, input_count, instance_count}
use Rattle.ps_model.specs.Scanning.{State}
use Rattle.ps_model.specs.Meaning.{Item, scan, restart, Meaning, report}
use Rattle.ps_machine.specs.Items.{AreTimely}
use Rattle.ps_world.specs.Worlds.{Machines, World_state, Restart, world_0}
use Rattle.ps_world.specs.Verdicts.{verdict, report_given}
use Rattle.ps_world.specs.Steps.{world_step, after}
use Rattle.ps_world.specs.Lists.{is_same}
use Rattle.ps_world.specs.Orders.{of_scan, at_compare, scan_events}

-- the answer of a scan: the verdict of its Compare, and the report that is given
pub record Answer : Type 0 where
  pub verdict : Verdict
  pub report : Report

-- the answers of the scans among these items, of which the first scan has this number
abbrev pub answers : Machines → (outputs instances : ℕ) → List Fault → (number : ℕ) → List Item → World_state → List Answer
answers m outputs instances faults number [] x = []
answers m outputs instances faults number (restart ∷ items) x = answers m outputs instances faults number items (world_step m Restart x)
answers m outputs instances faults number (scan now ins ∷ items) x =
    let z = at_compare m (of_scan number faults) now ins x in
    record { verdict = verdict m z; report = report_given m outputs instances z }
    ∷ answers m outputs instances faults (suc number) items (after m (scan_events m (of_scan number faults) now ins x) x)

-- no fault names the channel
abbrev pub SpareChannel : Channel → List Fault → Type 0
SpareChannel ch [] = Unit {0}
SpareChannel ch (f ∷ faults) = (is_same ch f.channel ≡ false) × SpareChannel ch faults

-- each answer that releases gives the report of its scan's state
abbrev pub ReleaseRight : Network → List Answer → List State → Type 0
ReleaseRight net [] ws = Unit {0}
ReleaseRight net (a ∷ rest) [] = ⊥
ReleaseRight net (a ∷ rest) (w ∷ ws) = (a.verdict ≡ Released → a.report ≡ report net w) × ReleaseRight net rest ws

-- every answer releases, with the report of its scan's state
abbrev pub ReleaseAll : Network → List Answer → List State → Type 0
ReleaseAll net [] ws = Unit {0}
ReleaseAll net (a ∷ rest) [] = ⊥
ReleaseAll net (a ∷ rest) (w ∷ ws) = (a.verdict ≡ Released) × (a.report ≡ report net w) × ReleaseAll net rest ws

module _ (net : Network) (m : Machines) where
  -- the answers of a run
  abbrev pub answers_of_run : List Item → List Fault → List Answer
  answers_of_run items faults = answers m (length net.outputs) (instance_count net) faults 1 items (world_0 m)

  -- A run is right: where the faults name one channel at the most, each report that is released is that of the meaning.
  abbrev pub RunsAreRight : Type 0
  RunsAreRight = (items : List Item) (faults : List Fault) (ws : List State) (spared : Channel) → AreTimely (input_count net) 0 items → SpareChannel spared faults →
      Meaning net items ws → ReleaseRight net (answers_of_run items faults) ws

  -- A run without faults releases every scan, with the report of the meaning.
  abbrev pub QuietRunsRelease : Type 0
  QuietRunsRelease = (items : List Item) (ws : List State) → AreTimely (input_count net) 0 items → Meaning net items ws → ReleaseAll net (answers_of_run items []) ws
