use Rattle.std.proofs.Common.{◌≡◌, ◌++◌, take}
use Rattle.std.specs.Prelude.{codes}
use Rattle.std.specs.List.{flat_map}
use Rattle.ps_bench_never.specs.Pieces.{value_text}
use Rattle.ps_bench_never.proofs.pieces.add_other_values.Given as goal

abbrev pub invariant-loop-value : goal.invariant-loop-value
invariant-loop-value l = l.text ≡ l.initial.text ++ flat_map (λ v. codes "," ++ value_text l.name v) (take l.value-index l.values)
