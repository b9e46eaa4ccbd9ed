use Rattle.std.proofs.Common.{◌≡◌, drop}
use Rattle.std.specs.List.{list_any}
use Rattle.ps_bench_never.specs.Casing.{is_of_before}
use Rattle.ps_bench_never.proofs.casing.some_of_before.Given as goal

abbrev pub invariant-loop-condition : goal.invariant-loop-condition
invariant-loop-condition l = list_any (is_of_before l.before) l.conditions ≡ list_any (is_of_before l.before) (drop l.condition-index l.conditions)
