use Rattle.std.proofs.Common.{◌≡◌, ℕ, ◌≤◌, length, drop, get_or}
use Rattle.ps_model.specs.Network.{instance_count}
use Rattle.ps_machine.specs.Standing.{limit_from}
use Rattle.ps_vote.proofs.limits.note_limits.Given as goal

-- each limit is that of the steps from this one on
abbrev pub invariant-loop-k : goal.invariant-loop-k
invariant-loop-k l = record {
  all : length l.limits ≡ instance_count l.app;
  within : l.k ≤ length l.app.steps;
  each : (i : ℕ) → get_or l.limits i 0 ≡ limit_from l.app i (drop l.k l.app.steps);
}

abbrev pub decreases-loop-k : goal.decreases-loop-k
decreases-loop-k l = l.k
