use Rattle.std.proofs.Common.{◌≡◌, ◌++◌, drop}
use Rattle.ps_bench_report.specs.Marks.{marks_in}
use Rattle.ps_bench_report.proofs.marks.push_marks.Given as goal

abbrev pub invariant-loop-statement : goal.invariant-loop-statement
invariant-loop-statement l =
    (l.marks.items ++ marks_in l.failures (drop l.statement-index l.statements))
    ≡ (l.fn.marks.items ++ marks_in l.failures l.statements)
