use Rattle.std.proofs.Common.{◌≡◌, ◌<◌, ℕ, true}
use Rattle.ps_bench_never.specs.Likeness.{is_same_signal}
use Rattle.ps_bench_never.proofs.likeness.first_unlike_signal.Given as goal

abbrev pub invariant-loop-s : goal.invariant-loop-s
invariant-loop-s l = (k : ℕ) → k < l.s → is_same_signal l.app l.other k ≡ true
