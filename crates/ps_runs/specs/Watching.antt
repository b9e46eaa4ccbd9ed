-- What the plain evaluator makes of the items of a trace, alone and beside another performer: its states before and
-- after the last scan are those of what the items mean.
use Rattle.std.specs.Prelude.{◌≡◌, ◌≤◌, ℕ, List, Bool, length}
use Rattle.ps_model.specs.declared.report.Report.{Report}
use Rattle.ps_model.specs.Network.{Network, instance_count}
use Rattle.ps_model.specs.Scanning.{State, Solves}
use Rattle.ps_model.specs.Meaning.{Item, scan, restart, Past, nothing, last, last_time, old_state, passed}
use Rattle.ps_model.specs.Meaning.{report as report_of}
use Rattle.ps_scan.specs.Cells.{IsFor}
use Rattle.ps_scan.specs.Scan.{CellsStand}
use Rattle.ps_runs.specs.Outcomes.{Outcome, performed, anew}
use Rattle.ps_runs.specs.declared.watching.Evaluated.{Evaluated}
use Rattle.ps_runs.specs.declared.watching.Watched.{Watched}

-- an evaluator has the application's sizes
pub record IsEvaluatorFor (net : Network) (e : Evaluated) : Type 0 where
  pub before : IsFor net e.before
  pub behind : IsFor net e.behind

-- An evaluator stands where a run of an application has come to: its signals and instances are those of the state
-- that the last scan left, or of the first state, and it has that scan's time.
pub record StandsAt (net : Network) (past : Past) (e : Evaluated) : Type 0 where
  pub state : CellsStand net past e.behind
  pub time : e.last ≡ last_time past

-- The scan that comes next was evaluated, with this report: there is a state that solves its equations, the evaluator
-- stands after it and has kept the state before, and the report is that of the new state.
pub record IsNext (net : Network) (past : Past) (now : ℕ) (ins : List Bool) (report : Report)
    (after : Evaluated) : Type 0 where
  pub state : State
  pub solves : Solves net (old_state net past) ins (passed past now) state
  pub stands : StandsAt net (last now state) after
  pub before : CellsStand net past after.before
  pub reports : report ≡ report_of net state

-- a scan was evaluated: wherever the run had come to, it is the one that comes next
abbrev pub Evaluates : Network → Evaluated → (now : ℕ) → List Bool → Report → Evaluated → Type 0
Evaluates net e now ins report after =
    (past : Past) → StandsAt net past e → last_time past ≤ now → IsNext net past now ins report after

-- an item was evaluated: a scan with this report, or all began anew, from the first state
abbrev pub EvaluatesItem : Network → Evaluated → Item → Report → Evaluated → Type 0
EvaluatesItem net e (scan now ins) report after = Evaluates net e now ins report after
EvaluatesItem net e restart report after = StandsAt net nothing after

-- An item has this outcome by the evaluator alone, and leaves the second one where the first one was.
abbrev pub EvaluatesAs : Network → Evaluated → Item → Outcome (Unit {0}) → Evaluated → Type 0
EvaluatesAs net e (scan now ins) outcome after =
    (report : Report) × (outcome ≡ performed now tt report) × Evaluates net e now ins report after
EvaluatesAs net e restart outcome after = (outcome ≡ anew) × StandsAt net nothing after

-- A performer and the evaluator beside it have the application's sizes, and so has the report that the evaluator makes.
pub record IsWatchedFor {P : Type 0} (fits : Network → P → Type 0) (net : Network) (w : Watched P) : Type 0 where
  pub performer : fits net w.performer
  pub evaluator : IsEvaluatorFor net w.evaluator
  pub outputs : length w.meant.outs ≡ length net.outputs
  pub diagnoses : length w.meant.diags ≡ instance_count net

-- An item has this outcome by the performer that is watched, and was evaluated beside it, with the report that is
-- meant.
pub record Watches {P V : Type 0} (performs : Network → P → Item → Outcome V → P → Type 0) (net : Network)
    (w : Watched P) (item : Item) (outcome : Outcome V) (after : Watched P) : Type 0 where
  pub done : performs net w.performer item outcome after.performer
  pub evaluates : EvaluatesItem net w.evaluator item after.meant after.evaluator
