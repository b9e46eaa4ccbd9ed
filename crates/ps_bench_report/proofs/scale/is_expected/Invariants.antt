use Rattle.std.proofs.Common.{◌≡◌, drop}
use Rattle.ps_bench_report.specs.Scale.{is_expected}
use Rattle.ps_bench_report.proofs.scale.is_expected.Given as goal

abbrev pub invariant-loop-mark : goal.invariant-loop-mark
invariant-loop-mark l = is_expected l.moment (drop l.mark-index l.marks) ≡ is_expected l.moment l.marks
