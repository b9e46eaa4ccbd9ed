use Rattle.std.proofs.Common.{◌≡◌, ◌++◌, get_or, false}
use Rattle.std.specs.List.{flat_map, range_with_len}
use Rattle.ps_bench_never.specs.Casing.{change_text}
use Rattle.ps_bench_never.proofs.casing.add_changes.Given as goal

abbrev pub invariant-loop-i : goal.invariant-loop-i
invariant-loop-i l = l.text ≡ l.initial.text ++ flat_map (λ i. change_text l.app i (get_or l.before i false) (get_or l.values i false)) (range_with_len 0 l.i)
