use Rattle.std.proofs.Common.{◌≡◌, drop}
use Rattle.ps_bench_report.specs.Marks.{with_statements}
use Rattle.ps_bench_report.proofs.marks.push_all_expected.Given as goal

abbrev pub invariant-loop-statement : goal.invariant-loop-statement
invariant-loop-statement l =
    with_statements l.names.items (drop l.statement-index l.statements) ≡ with_statements l.fn.names.items l.statements
