use Rattle.std.proofs.Common.{◌≡◌, take}
use Rattle.ps_bench_never.proofs.single.copied_values.Given as goal

-- those so far
abbrev pub invariant-loop-value : goal.invariant-loop-value
invariant-loop-value l = l.copied ≡ take l.value-index l.values
