use Rattle.std.proofs.Common.{◌≡◌, ◌+◌, ◌*◌, ◌≤◌, ◌++◌, take, drop, map, length}
use Rattle.ps_bench_waves.specs.declared.change.TheConstants.{CHANGE_ROOM}
use Rattle.ps_bench_waves.specs.Values.{held}
use Rattle.ps_bench_waves.specs.Text.{changes}
use Rattle.ps_bench_waves.proofs.dump.put_changes.Given as goal

-- the wires that are left
abbrev pub invariant-loop-wire : goal.invariant-loop-wire
invariant-loop-wire l = record {
  bytes : take l.end l.text ++ changes l.all l.wire (map held (drop l.wire l.last)) (map held (drop l.wire l.values))
      ≡ take l.at l.initial.text ++ changes l.all 0 (map held l.last) (map held l.values);
  end : l.end ≤ l.at + CHANGE_ROOM * l.wire;
  len : length l.text ≡ length l.initial.text;
}
