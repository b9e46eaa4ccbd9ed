use Rattle.std.proofs.Common.{ℕ, ◌<◌}
use Rattle.ps_demand.specs.Lines.{IsSafeOutput, IsLarge}
use Rattle.ps_demand.proofs.lines.first_large.Given as goal

-- no output so far is Large
abbrev pub invariant-loop-signal : goal.invariant-loop-signal
invariant-loop-signal l = (t : ℕ) → t < l.signal → IsSafeOutput l.app t → ¬ IsLarge l.app t
