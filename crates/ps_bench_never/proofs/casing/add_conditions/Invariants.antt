use Rattle.std.proofs.Common.{◌≡◌, ◌++◌, drop}
use Rattle.std.specs.List.{filter, flat_map}
use Rattle.ps_bench_never.specs.Casing.{is_of_before}
use Rattle.ps_bench_never.specs.Pieces.{condition_text}
use Rattle.ps_bench_never.proofs.casing.add_conditions.Given as goal

abbrev pub invariant-loop-condition : goal.invariant-loop-condition
invariant-loop-condition l =
    l.text ++ flat_map (condition_text l.app) (filter (is_of_before l.before) (drop l.condition-index l.conditions))
    ≡ l.initial.text ++ flat_map (condition_text l.app) (filter (is_of_before l.before) l.conditions)
