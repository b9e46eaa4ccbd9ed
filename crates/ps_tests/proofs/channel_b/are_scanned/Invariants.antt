use Rattle.std.proofs.Common.{◌≡◌}
use Rattle.ps_tests.proofs.channel_b.are_scanned.Given as goal

-- the channel keeps its sizes
abbrev pub invariant-loop-now : goal.invariant-loop-now
invariant-loop-now l = l.motor.sizes ≡ l.initial.motor.sizes
