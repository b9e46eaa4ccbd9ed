-- What a scan of an application shows the guards of an instance that it calls.
use Rattle.std.specs.Prelude.{ℕ, Bool, List}
use Rattle.ps_model.specs.Action.{Actual}
use Rattle.ps_model.specs.Blocks.{conditions}
use Rattle.ps_model.specs.Network.{Network, kind_at}
use Rattle.ps_model.specs.Scanning.{State, block_in, limit_of, pins_under, read_at}
use Rattle.ps_model.specs.Table.{Conditions}

-- a scan: the state before it, the ms that passed since the scan before, and the state after it
module _ (net : Network) (old : State) (since : ℕ) (new : State) where
  -- the pins of an instance as the call of step k reads them
  abbrev pub pins_read : (k i : ℕ) → List Actual → ℕ → Bool
  pins_read k i args = pins_under (read_at net old new k) (kind_at net i) args

  -- what the guards of the instance see there
  abbrev pub seen_by : (k i : ℕ) → List Actual → Conditions
  seen_by k i args =
      conditions (kind_at net i) (limit_of (kind_at net i) args) (pins_read k i args) since (block_in old i)
