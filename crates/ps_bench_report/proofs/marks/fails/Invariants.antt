use Rattle.std.proofs.Common.{◌≡◌, drop}
use Rattle.ps_bench_report.specs.Marks.{fails_at}
use Rattle.ps_bench_report.proofs.marks.fails.Given as goal

abbrev pub invariant-loop-failure : goal.invariant-loop-failure
invariant-loop-failure l = fails_at (drop l.failure-index l.failures) l.line ≡ fails_at l.failures l.line
