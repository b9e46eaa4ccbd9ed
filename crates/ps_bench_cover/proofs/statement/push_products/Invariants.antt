use Rattle.std.proofs.Common.{◌≡◌, ◌++◌, map, take}
use Rattle.ps_parser.specs.SumView.{product_tree}
use Rattle.ps_bench_cover.specs.Operands.{of_or, place_of}
use Rattle.ps_bench_cover.proofs.statement.push_products.Given as goal

abbrev pub invariant-loop-product : goal.invariant-loop-product
invariant-loop-product l = l.places.items ≡ l.fn.places.items ++ map place_of (map of_or (map product_tree (take l.product-index l.items)))
