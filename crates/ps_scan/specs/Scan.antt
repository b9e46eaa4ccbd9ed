-- When the cells of a scanner stand for where a run of an application is, and what a scan makes of them.
use Rattle.std.specs.Prelude.{◌≡◌, ◌≤◌, ℕ, Bool, false, List, length}
use Rattle.ps_model.specs.Network.{Network, input_count, instance_count, is_driven}
use Rattle.ps_model.specs.Kept.{StandsBy, Since}
use Rattle.ps_model.specs.Scanning.{State, Solves, block_in}
use Rattle.ps_model.specs.Meaning.{Past, last, last_time, old_state, passed, report}
use Rattle.ps_model.specs.declared.report.Report.{Report}
use Rattle.ps_scan.specs.Cells.{Cells, signal_at, kept_at}

-- The cells stand for the state that the last scan left, or for the first one. A signal that nothing drives is FALSE.
pub record CellsStand (net : Network) (past : Past) (w : Cells) : Type 0 where
  pub signals : w.signals ≡ (old_state net past).signals
  pub undriven : (s : ℕ) → input_count net ≤ s → is_driven net s ≡ false → signal_at w s ≡ false
  pub instance_each : length (old_state net past).blocks ≡ instance_count net
  pub instances : (i : ℕ) → StandsBy (Since (last_time past)) (kept_at w i) (block_in (old_state net past) i)

-- A scan with these inputs: the cells stand for the state that solves its equations, and the report is that state's.
pub record IsScan (net : Network) (past : Past) (now : ℕ) (ins : List Bool) (r : Report) (w : Cells) : Type 0 where
  pub state : State
  pub solves : Solves net (old_state net past) ins (passed past now) state
  pub stands : CellsStand net (last now state) w
  pub reports : r ≡ report net state
