use Rattle.std.proofs.Common.{◌≡◌, ◌+◌, ◌*◌, List, Bool, min, drop, flat_map, length}
use Rattle.ps_bench_cases.specs.Meant.{times_of}
use Rattle.ps_bench_cases.specs.Expanded.{scan_line}
use Rattle.ps_bench_cases.proofs.room.Room.behind_pace.Given as goal

-- the time of the scan before, and what is left after the scans so far
abbrev pub invariant-loop-k : goal.invariant-loop-k
invariant-loop-k l = record {
  time : l.now ≡ min (l.pace.from + l.k * l.pace.step) l.pace.upto;
  left : (ins : List Bool) → length ins ≡ l.base.inputs →
      l.room.left + length (flat_map (λ now. scan_line (l.base.time + now) ins) (times_of l.pace)) ≡
      l.fn.self.left + length (flat_map (λ now. scan_line (l.base.time + now) ins) (drop l.k (times_of l.pace)));
  held : l.room.held ≡ l.fn.self.held;
}
