use Rattle.std.proofs.Common.{take}
use Rattle.std.specs.List.{flat_map}
use Rattle.ps_bench_report.specs.Paged.{Adds}
use Rattle.ps_bench_report.specs.Diagram.{lane_pieces}
use Rattle.ps_bench_report.proofs.diagram.add_lanes.Given as goal

abbrev pub invariant-loop-lane : goal.invariant-loop-lane
invariant-loop-lane l = Adds l.initial.page l.page (flat_map (lane_pieces l.sheet.app.now l.scans) (take l.lane-index l.sheet.lanes.now))
