use Rattle.std.proofs.Common.{◌≡◌, map}
use Rattle.std.specs.List.{range_with_len}
use Rattle.ps_cover.specs.Covers.{idle_step}
use Rattle.ps_cover.proofs.cover.first_calls.Given as goal

abbrev pub invariant-loop-k : goal.invariant-loop-k
invariant-loop-k l = l.calls.items ≡ map idle_step (range_with_len 0 l.k)
