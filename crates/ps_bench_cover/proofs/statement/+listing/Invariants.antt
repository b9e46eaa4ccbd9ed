use Rattle.std.proofs.Common.{◌≡◌, ◌++◌, map, take}
use Rattle.std.specs.List.{flat_map}
use Rattle.ps_parser.specs.SumView.{factor_tree, product_tree}
use Rattle.ps_bench_cover.specs.Operands.{place_of, product_operands, within_factor}
use Rattle.ps_bench_cover.proofs.statement.+listing.Given as goal

abbrev pub invariant-push_product-each : goal.invariant-push_product-each
invariant-push_product-each l =
    l.places.items ≡ l.initial.places.items ++ flat_map (λ f. map place_of (within_factor (factor_tree f))) (take l.factor-index l.factor-items)

abbrev pub invariant-push_sum-each : goal.invariant-push_sum-each
invariant-push_sum-each l =
    l.places.items ≡ l.initial.places.items ++ flat_map (λ p. map place_of (product_operands (product_tree p))) (take l.product-index l.product-items)
