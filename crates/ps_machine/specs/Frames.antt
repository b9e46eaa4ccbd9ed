-- The channel that a frame has.
use Rattle.ps_machine.specs.declared.frame.Frame.{Frame}
use Rattle.ps_machine.specs.StoredChannel.{Stored}

-- the channel with the sizes, the code and the cells of a frame
abbrev pub channel_in : Frame → Stored
channel_in f = record { sizes = f.sizes; code = f.code.items; cells = f.cells.items }
