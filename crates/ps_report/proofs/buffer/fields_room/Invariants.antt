use Rattle.std.proofs.Common.{◌≡◌, ◌+◌, take}
use Rattle.ps_report.specs.Lines.{outputs_room, instances_room}
use Rattle.ps_report.proofs.buffer.fields_room.Given as goal

abbrev pub invariant-loop-j : goal.invariant-loop-j
invariant-loop-j l = l.room ≡ outputs_room (take l.j l.app.outputs)

abbrev pub invariant-loop-i : goal.invariant-loop-i
invariant-loop-i l = l.room ≡ outputs_room l.app.outputs + instances_room (take l.i l.app.instances)
