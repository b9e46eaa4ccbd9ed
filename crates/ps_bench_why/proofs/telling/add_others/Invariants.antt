use Rattle.std.proofs.Common.{◌≡◌, ◌++◌, drop}
use Rattle.std.specs.Prelude.{codes, decimal}
use Rattle.std.specs.List.{flat_map}
use Rattle.ps_bench_why.proofs.telling.add_others.Given as goal

abbrev pub invariant-loop-n : goal.invariant-loop-n
invariant-loop-n l =
    l.text ++ flat_map (λ v. codes "," ++ decimal v) (drop l.n-index l.numbers)
    ≡ l.initial.text ++ flat_map (λ v. codes "," ++ decimal v) l.numbers
