-- The channels of a fault file, as the code has them.
use Rattle.ps_model.specs.declared.channel.Channel.{Channel}
use Rattle.ps_model.specs.declared.channel.Fault.{Fault}
use Rattle.ps_trace.specs.declared.target.FaultLine.{FaultLine}

-- the parts of a fault's line
abbrev pub line_of_fault : Fault → FaultLine Channel
line_of_fault fault = record { scan = fault.scan; turn = fault.turn; who = fault.channel; region = fault.region; at = fault.at; bytes = fault.bytes }
