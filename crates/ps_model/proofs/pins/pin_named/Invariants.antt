use Rattle.std.proofs.Common.{ℕ, ◌<◌}
use Rattle.ps_model.specs.Pins.{IsNamed}
use Rattle.ps_model.proofs.pins.pin_named.Given as goal

abbrev pub invariant-loop-j : goal.invariant-loop-j
invariant-loop-j l = (k : ℕ) → k < l.j → ¬ (IsNamed l.kind l.name k)
