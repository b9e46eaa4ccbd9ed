use Rattle.std.proofs.Common.{◌≡◌, ◌++◌}
use Rattle.std.specs.List.{flat_map, range_with_len}
use Rattle.ps_bench_why.specs.Moments.{output_at}
use Rattle.ps_bench_why.proofs.naming.add_outputs.Given as goal

abbrev pub invariant-loop-i : goal.invariant-loop-i
invariant-loop-i l = l.text ≡ l.fn.text ++ flat_map (output_at l.app l.s) (range_with_len 0 l.i)
