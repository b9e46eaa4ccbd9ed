use Rattle.std.proofs.Common.{◌≡◌, ◌-◌}
use Rattle.std.specs.Prelude.{fold}
use Rattle.std.specs.List.{range_with_len}
use Rattle.ps_bench_report.specs.Marks.{with_code}
use Rattle.ps_bench_report.proofs.marks.push_codes.Given as goal

abbrev pub invariant-loop-instance : goal.invariant-loop-instance
invariant-loop-instance l =
    fold with_code l.names.items (range_with_len l.instance (l.count - l.instance)) ≡ fold with_code l.fn.names.items (range_with_len 0 l.count)
