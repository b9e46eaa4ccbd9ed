use Rattle.std.proofs.Common.{◌≡◌, ◌≤◌, ◌+◌, ◌++◌, drop, length}
use Rattle.ps_bench_waves.specs.Lines.{members_text}
use Rattle.ps_bench_waves.specs.Room.{cells_of, columns_room}
use Rattle.ps_bench_waves.proofs.rows.put_members.Given as goal

abbrev pub invariant-loop-column : goal.invariant-loop-column
invariant-loop-column l = record {
  text : l.line.text ++ members_text l.app (cells_of (drop l.column-index l.columns))
      ≡ l.initial.line.text ++ members_text l.app (cells_of l.columns);
  len : length l.line.text + columns_room (drop l.column-index l.columns)
      ≤ length l.initial.line.text + columns_room l.columns;
  room : l.line.room ≡ l.initial.line.room;
}
