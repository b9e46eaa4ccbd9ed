-- A machine: how the bytes of a channel change, and what they say. Channels A, B and C are three of them.
use Rattle.std.specs.Prelude.{ℕ, zero, suc, Bool, List, Option}
use Rattle.ps_model.specs.declared.channel.Progress.{Progress}
use Rattle.ps_model.specs.declared.report.Report.{Report}

-- How the cells of a channel change and what they say, whatever code it has. Cells and code are bytes as they are
-- stored.
pub record Workings : Type 0 where
  -- the cells after the Begin of a scan with this time and these inputs
  pub begin : (now : ℕ) (ins : List Bool) → List ℕ → List ℕ
  -- the cells after one turn, from code and cells
  pub turn : List ℕ → List ℕ → List ℕ
  -- what the cells say of the scan
  pub progress : List ℕ → Progress
  -- the report that the cells hold, or none
  pub report : List ℕ → Option Report
  -- the cells at the start, each of plain value 0
  pub blank : List ℕ

-- The same with the code of an application and the most turns of its scans.
pub record Machine : Type 0 where
  -- the cells after the Begin of a scan with this time and these inputs
  pub begin : (now : ℕ) (ins : List Bool) → List ℕ → List ℕ
  -- the cells after one turn, from code and cells
  pub turn : List ℕ → List ℕ → List ℕ
  -- what the cells say of the scan
  pub progress : List ℕ → Progress
  -- the report that the cells hold, or none
  pub report : List ℕ → Option Report
  -- the code as compiled
  pub image : List ℕ
  -- the cells at the start, each of plain value 0
  pub blank : List ℕ
  -- the most turns of a scan
  pub budget : ℕ

-- the machine with these workings, this code and this budget of turns
abbrev pub machine_of : Workings → (image : List ℕ) → (budget : ℕ) → Machine
machine_of w image budget = record {
  begin = w.begin;
  turn = w.turn;
  progress = w.progress;
  report = w.report;
  image = image;
  blank = w.blank;
  budget = budget;
}

-- what becomes of something by so many turns
abbrev pub turned : {X : Type 0} → (X → X) → ℕ → X → X
turned turn zero x = x
turned turn (suc k) x = turned turn k (turn x)
