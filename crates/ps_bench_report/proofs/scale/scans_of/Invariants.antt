use Rattle.std.proofs.Common.{◌≡◌, ◌++◌, drop, length, map, take}
use Rattle.ps_bench_report.specs.Diagram.{shown_in}
use Rattle.ps_bench_report.specs.Scale.{side_by_side, side_from, stand_of}
use Rattle.ps_bench_report.proofs.scale.scans_of.Given as goal

abbrev pub invariant-loop-moment : goal.invariant-loop-moment
invariant-loop-moment l =
    record {
      shown : shown_in l.scans.items ≡ take l.moment-index l.moments;
      count : length l.scans.items ≡ l.moment-index;
      stands : map stand_of l.scans.items ++ side_from l.marks l.unit (length l.scans.items) l.x (drop l.moment-index l.moments)
          ≡ side_by_side l.marks l.unit l.moments;
    }
