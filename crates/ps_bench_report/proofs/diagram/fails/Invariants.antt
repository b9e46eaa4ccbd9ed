use Rattle.std.proofs.Common.{◌≡◌, drop}
use Rattle.ps_bench_report.specs.Diagram.{fails}
use Rattle.ps_bench_report.proofs.diagram.fails.Given as goal

abbrev pub invariant-loop-mark : goal.invariant-loop-mark
invariant-loop-mark l = fails (drop l.mark-index l.marks) ≡ fails l.marks
