use Rattle.std.proofs.Common.{take}
use Rattle.std.specs.List.{flat_map}
use Rattle.ps_bench_report.specs.Paged.{Adds}
use Rattle.ps_bench_report.specs.Diagram.{scan_pieces}
use Rattle.ps_bench_report.proofs.diagram.add_scans.Given as goal

abbrev pub invariant-loop-scan : goal.invariant-loop-scan
invariant-loop-scan l = Adds l.initial.page l.page (flat_map (scan_pieces l.bottom l.sheet.marks.now) (take l.scan-index l.scans))
