-- When channel A's cells stand for a state.
use Rattle.std.specs.Prelude.{ℕ, List}
use Rattle.ps_model.specs.Network.{Network}
use Rattle.ps_model.specs.Scanning.{State}
use Rattle.ps_model.specs.Kept.{Since}
use Rattle.ps_machine.specs.Standing.{AreCellsOf}
use Rattle.ps_stackvm.specs.declared.layout.TheConstants.{SIGNALS_AT}

-- The cells stand for the state w after a scan at time t: the signal bytes are the values of the signals, and the
-- sixteen bytes of each instance load to its state; where that is not Idle, the kept time and the age together are t.
abbrev pub StandsA : Network → State → (t : ℕ) → (cells : List ℕ) → Type 0
StandsA net w t cells = AreCellsOf net (λ i. Since t) w SIGNALS_AT cells
