use Rattle.std.proofs.Common.{◌≡◌, take}
use Rattle.ps_bench_never.proofs.single.copied_conditions.Given as goal

-- those so far
abbrev pub invariant-loop-condition : goal.invariant-loop-condition
invariant-loop-condition l = l.copied ≡ take l.condition-index l.conditions
