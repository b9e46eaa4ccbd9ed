use Rattle.std.proofs.Common.{◌≡◌, ◌+◌, ◌*◌, ℕ, List, min, drop, flat_map}
use Rattle.ps_bench_cases.specs.Meant.{times_of}
use Rattle.ps_bench_cases.specs.Expanded.{scan_line}
use Rattle.ps_bench_cases.proofs.Pieces.{LeftOf}
use Rattle.ps_bench_cases.proofs.expanding.put_pace.Given as goal

-- the time of the scan before, and the scans that are left
abbrev pub invariant-loop-k : goal.invariant-loop-k
invariant-loop-k g l =
    let line : ℕ → List ℕ = λ now. scan_line (l.base + now) l.ins in
    record {
      time : l.now ≡ min (l.pace.from + l.k * l.pace.step) l.pace.upto;
      left : LeftOf g.S.Sink.tells g.S.Sink.taken g.S.Sink.faults (flat_map line (times_of l.pace)) (flat_map line (drop l.k (times_of l.pace))) l.fn.out l.out;
    }
