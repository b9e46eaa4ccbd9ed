use Rattle.std.proofs.Common.{◌≡◌, map, take}
use Rattle.ps_bench_why.specs.declared.walker.Since.{Since}
use Rattle.ps_bench_why.proofs.reasoning.all_before.Given as goal

abbrev pub invariant-loop-noted : goal.invariant-loop-noted
invariant-loop-noted l = l.times.items ≡ map (λ (s : Since). s.before) (take l.noted-index l.since)
