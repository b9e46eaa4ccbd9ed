-- The list of first readers.
use Rattle.std.specs.Prelude.{◌≡◌, ◌<◌, ℕ, List, Option, length}
use Rattle.ps_model.specs.FirstSteps.{step_noted}
use Rattle.ps_model.specs.Network.{Network, signal_count}
use Rattle.ps_notes.specs.Notes.{first_reader}

-- for each signal stands the first step that reads it, the one that drives it left out
pub record AreReaders (net : Network) (readers : List (Option ℕ)) : Type 0 where
  pub each : length readers ≡ signal_count net
  pub first : (s : ℕ) → s < signal_count net → step_noted readers s ≡ first_reader net s
