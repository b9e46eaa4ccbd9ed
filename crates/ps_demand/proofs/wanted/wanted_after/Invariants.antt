use Rattle.std.proofs.Common.{◌≡◌, ℕ, ◌≤◌, ◌<◌, true, length}
use Rattle.ps_model.specs.FirstSteps.{step_noted}
use Rattle.ps_model.specs.Network.{signal_count}
use Rattle.ps_demand.specs.Wanted.{is_wanted, IsLate}
use Rattle.ps_demand.proofs.wanted.wanted_after.Given as goal

-- what is noted so far
abbrev pub invariant-loop-signal : goal.invariant-loop-signal
invariant-loop-signal l = record {
  long : length l.last.items ≡ signal_count l.app;
  late : (s : ℕ) → IsLate (length l.app.steps) (step_noted l.last.items s);
  wanted : (s : ℕ) → l.first ≤ s → s < l.signal → is_wanted l.last.items (length l.app.steps) s ≡ true;
}
