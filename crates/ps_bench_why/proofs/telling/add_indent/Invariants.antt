use Rattle.std.proofs.Common.{◌≡◌, ◌++◌}
use Rattle.std.specs.Prelude.{codes}
use Rattle.std.specs.List.{flat_map, range_with_len}
use Rattle.ps_bench_why.proofs.telling.add_indent.Given as goal

abbrev pub invariant-loop-n : goal.invariant-loop-n
invariant-loop-n l = l.text ≡ l.fn.text ++ flat_map (λ n. codes "  ") (range_with_len 0 l.n)
