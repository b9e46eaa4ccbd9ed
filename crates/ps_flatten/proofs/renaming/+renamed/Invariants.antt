use Rattle.std.proofs.Common.{◌≡◌, map, take}
use Rattle.ps_derived.specs.Renaming.{factor_renamed, product_renamed}
use Rattle.ps_parser.specs.SumView.{factor_tree, factor_trees, product_tree, product_trees}
use Rattle.ps_flatten.specs.Laying.{renamed}
use Rattle.ps_flatten.proofs.renaming.+renamed.Given as goal

abbrev pub invariant-sum_renamed-each : goal.invariant-sum_renamed-each
invariant-sum_renamed-each l = product_trees l.products ≡ map (λ p. product_renamed (renamed l.renaming) (product_tree p)) (take l.product-index l.product-items)

abbrev pub invariant-product_renamed-each : goal.invariant-product_renamed-each
invariant-product_renamed-each l = factor_trees l.factors ≡ map (λ f. factor_renamed (renamed l.renaming) (factor_tree f)) (take l.factor-index l.factor-items)
