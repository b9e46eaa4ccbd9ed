use Rattle.std.proofs.Common.{length, ◌-◌, ◌≤◌}
use Rattle.ps_bench_messages.proofs.advising.unindented.Given as goal

abbrev pub invariant-loop-from : goal.invariant-loop-from
invariant-loop-from l = l.from ≤ length l.line

abbrev pub decreases-loop-from : goal.decreases-loop-from
decreases-loop-from l = length l.line - l.from
