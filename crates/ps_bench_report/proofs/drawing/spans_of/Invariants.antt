use Rattle.std.proofs.Common.{◌≡◌, map, take}
use Rattle.ps_bench_report.specs.Diagram.{span_of}
use Rattle.ps_bench_report.proofs.drawing.spans_of.Given as goal

abbrev pub invariant-loop-scan : goal.invariant-loop-scan
invariant-loop-scan l = l.spans.items ≡ map (span_of l.number) (take l.scan-index l.scans)
