use Rattle.std.proofs.Common.{◌≡◌, ◌+◌, ◌++◌, get_or, false}
use Rattle.std.specs.List.{flat_map, range_with_len}
use Rattle.ps_model.specs.Network.{input_count}
use Rattle.ps_bench_never.specs.Casing.{set_text}
use Rattle.ps_bench_never.proofs.same_telling.add_values.Given as goal

abbrev pub invariant-loop-o : goal.invariant-loop-o
invariant-loop-o l = l.text ≡ l.initial.text ++ flat_map (λ o. set_text l.app (input_count l.app + o) (get_or l.values o false)) (range_with_len 0 l.o)
