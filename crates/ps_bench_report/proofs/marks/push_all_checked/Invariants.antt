use Rattle.std.proofs.Common.{◌≡◌, drop}
use Rattle.std.specs.Prelude.{fold}
use Rattle.ps_bench_report.specs.Marks.{with_checked}
use Rattle.ps_bench_report.proofs.marks.push_all_checked.Given as goal

abbrev pub invariant-loop-check : goal.invariant-loop-check
invariant-loop-check l =
    fold with_checked l.names.items (drop l.check-index l.checks) ≡ fold with_checked l.fn.names.items l.checks
