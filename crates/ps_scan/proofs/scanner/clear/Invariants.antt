use Rattle.std.proofs.Common.{◌≡◌, ◌<◌, ℕ, length, get_or, false}
use Rattle.ps_scan.proofs.scanner.clear.Given as goal

abbrev pub invariant-loop-s : goal.invariant-loop-s
invariant-loop-s l = record {
  each : (k : ℕ) → k < l.s → get_or l.signals k false ≡ false;
  len : length l.signals ≡ length l.initial.signals;
}
