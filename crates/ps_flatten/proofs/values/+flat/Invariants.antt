use Rattle.std.proofs.Common.{◌≡◌, map, take}
use Rattle.ps_flatten.specs.Laying.{blocks_seen}
use Rattle.ps_derived.specs.Flat.{factor_flat, product_flat}
use Rattle.ps_parser.specs.SumView.{factor_tree, factor_trees, product_tree, product_trees}
use Rattle.ps_flatten.proofs.values.+flat.Given as goal

abbrev pub invariant-sum_flat-each : goal.invariant-sum_flat-each
invariant-sum_flat-each l = product_trees l.products ≡ map (λ p. product_flat (blocks_seen l.body.blocks.now) l.body.scope.now (product_tree p)) (take l.product-index l.product-items)

abbrev pub invariant-product_flat-each : goal.invariant-product_flat-each
invariant-product_flat-each l = factor_trees l.factors ≡ map (λ f. factor_flat (blocks_seen l.body.blocks.now) l.body.scope.now (factor_tree f)) (take l.factor-index l.factor-items)
