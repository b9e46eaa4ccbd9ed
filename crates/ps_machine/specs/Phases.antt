-- Where a channel stands that nothing struck: at rest between scans, or midway in one.
use Rattle.std.specs.Prelude.{◌≡◌, ℕ, ◌≤◌, Bool, true, false, List}
use Rattle.ps_model.specs.Network.{Network}
use Rattle.ps_model.specs.Scanning.{State}
use Rattle.ps_model.specs.Meaning.{Past, last_time, old_state}
use Rattle.ps_machine.specs.Machines.{Machine, turned}
use Rattle.ps_machine.specs.Keeping.{RunsTo}
use Rattle.ps_machine.specs.Channels.{Channel_state}

-- Its code is as compiled and its cells stand for the state of the last scan, which was at most at the latest time.
pub record AtRest (net : Network) (m : Machine) (Stands : State → ℕ → List ℕ → Type 0) (latest : ℕ) (s : Channel_state) (past : Past) : Type 0 where
  pub code : s.code ≡ m.image
  pub stands : Stands (old_state net past) (last_time past) s.cells
  pub early : last_time past ≤ latest

-- Its code is as compiled and its cells are on their way to the state of the scan that began, by as many turns as are
-- counted.
pub record Midway (net : Network) (m : Machine) (Stands : State → ℕ → List ℕ → Type 0) (latest : ℕ) (s : Channel_state) (past : Past) : Type 0 where
  pub code : s.code ≡ m.image
  pub from : List ℕ
  pub runs : RunsTo net m Stands from (old_state net past) (last_time past)
  pub at : s.cells ≡ turned (m.turn m.image) s.turns from
  pub count : s.turns ≤ runs.turns
  pub early : last_time past ≤ latest

-- by whether a scan is begun
abbrev pub Phase : (net : Network) (m : Machine) (Stands : State → ℕ → List ℕ → Type 0) (latest : ℕ) (begun : Bool) (s : Channel_state) (past : Past) → Type 0
Phase net m Stands latest false s past = AtRest net m Stands latest s past
Phase net m Stands latest true s past = Midway net m Stands latest s past
