-- The block of a call, step by step, as the code keeps it.
use Rattle.std.specs.Prelude.{ℕ, Option, Some, None, slice_get}
use Rattle.ps_model.specs.Action.{Action, assigns, calls}
use Rattle.ps_model.specs.Network.{Network, kind_at}
use Rattle.ps_model.specs.Scanning.{limit_of, pins_under}
use Rattle.ps_machine.specs.Reading.{read_in}
use Rattle.ps_cover.specs.declared.block.Called.{Called}
use Rattle.ps_ways.specs.Moving.{moved_by}
use Rattle.ps_ways.specs.declared.moving.Moved.{Moved}
use Rattle.ps_machine.specs.declared.signals.Signals.{Signals}

-- what a step makes of the block that it calls
abbrev pub moved_in : Network → Signals → (passed : ℕ) → Called → Option Action → Moved
moved_in net x passed c (Some (calls i args)) =
    moved_by (kind_at net i) (limit_of (kind_at net i) args) (pins_under (read_in net x c.step) (kind_at net i) args)
    passed c.moved.block
moved_in net x passed c (Some (assigns t e)) = c.moved
moved_in net x passed c None = c.moved

-- a call after a scan
abbrev pub called_in : Network → Signals → (passed : ℕ) → Called → Called
called_in net x passed c = record { step = c.step; moved = moved_in net x passed c (slice_get net.steps c.step) }
