-- When channel B's cells stand for a state. Profile.
use Rattle.std.specs.Prelude.{◌≡◌, ℕ, List}
use Rattle.ps_model.specs.Network.{Network}
use Rattle.ps_model.specs.Scanning.{State}
use Rattle.ps_model.specs.Kept.{Remains}
use Rattle.ps_machine.specs.Bytes.{be4}
use Rattle.ps_machine.specs.Standing.{AreCellsOf, limit_in}
use Rattle.ps_eqvm.specs.declared.layout.TheConstants.{LAST_AT, SIGNALS_AT}
use Rattle.ps_eqvm.specs.Plain.{complement}

-- The cells, as they are stored, stand for the state w after a scan at time t: the plain signal bytes are the values of
-- the signals, and the plain sixteen bytes of each instance load to its state; where that is not Idle, the time that
-- remains is the instance's limit less its age, and not below 0. The kept time is t.
pub record StandsB (net : Network) (w : State) (t : ℕ) (cells : List ℕ) : Type 0 where
  pub kept_time : be4 (complement cells) LAST_AT ≡ t
  pub standing : AreCellsOf net (λ i. Remains (limit_in net i)) w SIGNALS_AT (complement cells)
