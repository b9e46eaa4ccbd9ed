use Rattle.std.proofs.Common.{◌≡◌, ◌++◌, map, take}
use Rattle.ps_parser.specs.SumView.{factor_tree}
use Rattle.ps_bench_cover.specs.Operands.{of_and, place_of}
use Rattle.ps_bench_cover.proofs.statement.push_factors.Given as goal

abbrev pub invariant-loop-factor : goal.invariant-loop-factor
invariant-loop-factor l = l.places.items ≡ l.fn.places.items ++ map place_of (map of_and (map factor_tree (take l.factor-index l.factor-items)))
