use Rattle.std.proofs.Common.{◌≡◌, take}
use Rattle.ps_bench_report.specs.Diagram.{marks_at}
use Rattle.ps_bench_report.proofs.diagram.marks_at.Given as goal

abbrev pub invariant-loop-mark : goal.invariant-loop-mark
invariant-loop-mark l = l.list.items ≡ marks_at l.scan (take l.mark-index l.marks)
