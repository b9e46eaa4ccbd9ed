use Rattle.std.proofs.Common.{◌≡◌, ◌-◌}
use Rattle.std.specs.Prelude.{fold}
use Rattle.std.specs.List.{range_with_len}
use Rattle.ps_bench_report.specs.Marks.{with_signal}
use Rattle.ps_bench_report.proofs.marks.push_signals.Given as goal

abbrev pub invariant-loop-signal : goal.invariant-loop-signal
invariant-loop-signal l =
    fold with_signal l.names.items (range_with_len l.signal (l.count - l.signal)) ≡ fold with_signal l.fn.names.items (range_with_len 0 l.count)
