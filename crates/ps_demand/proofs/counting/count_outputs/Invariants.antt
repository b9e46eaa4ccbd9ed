use Rattle.std.proofs.Common.{◌≡◌, map}
use Rattle.std.specs.List.{range_with_len}
use Rattle.ps_demand.specs.Passes.{saturated, count_in, output_weight}
use Rattle.ps_demand.proofs.counting.count_outputs.Given as goal

abbrev pub invariant-loop-j : goal.invariant-loop-j
invariant-loop-j l = l.outputs.items ≡ map (λ j. saturated (output_weight l.fn.app (count_in l.fn.counts) l.fn.kind l.fn.args j)) (range_with_len 0 l.j)
