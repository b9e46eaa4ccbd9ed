use Rattle.std.proofs.Common.{◌≤◌, ◌+◌, take}
use Rattle.ps_bench_waves.specs.Room.{columns_room, frame_room}
use Rattle.ps_bench_waves.proofs.column.room_for.Given as goal

abbrev pub invariant-loop-column : goal.invariant-loop-column
invariant-loop-column l = frame_room + columns_room (take l.column-index l.columns) ≤ l.room
