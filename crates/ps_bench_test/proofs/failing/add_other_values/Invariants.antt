use Rattle.std.proofs.Common.{◌≡◌, ◌++◌, take, flat_map, codes}
use Rattle.ps_bench_test.specs.Naming.{value_text}
use Rattle.ps_bench_test.proofs.failing.add_other_values.Given as goal

abbrev pub invariant-loop-value : goal.invariant-loop-value
invariant-loop-value l =
    l.text ≡ l.initial.text ++ flat_map (λ v. codes " or " ++ value_text l.app l.name v) (take l.value-index l.values)
