use Rattle.std.proofs.Common.{◌≡◌}
use Rattle.ps_demand.proofs.Lined.{lines_before}
use Rattle.ps_demand.proofs.lines.write_lines.Given as goal

abbrev pub invariant-loop-signal : goal.invariant-loop-signal
invariant-loop-signal l = l.bytes ≡ lines_before l.app l.signal
