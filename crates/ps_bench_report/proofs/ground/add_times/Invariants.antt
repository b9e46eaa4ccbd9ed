use Rattle.std.proofs.Common.{take}
use Rattle.std.specs.List.{flat_map}
use Rattle.ps_bench_report.specs.Ground.{time_pieces}
use Rattle.ps_bench_report.specs.Paged.{Adds}
use Rattle.ps_bench_report.proofs.ground.add_times.Given as goal

abbrev pub invariant-loop-scan : goal.invariant-loop-scan
invariant-loop-scan l = Adds l.initial.page l.page (flat_map (time_pieces l.y) (take l.scan-index l.scans))
