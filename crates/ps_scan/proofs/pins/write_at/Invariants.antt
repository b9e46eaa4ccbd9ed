use Rattle.std.proofs.Common.{◌≡◌, ℕ, ◌+◌, ◌-◌, ◌&&◌, cond, get_or, false, length}
use Rattle.std.specs.Prelude.{nat_le, nat_lt}
use Rattle.ps_scan.proofs.pins.write_at.Given as goal

abbrev pub invariant-loop-j : goal.invariant-loop-j
invariant-loop-j l = record {
  each : (s : ℕ) → get_or l.signals s false ≡ cond (nat_le l.at s && nat_lt s (l.at + l.j)) (get_or l.values (s - l.at) false) (get_or l.initial.signals s false);
  len : length l.signals ≡ length l.initial.signals;
}
