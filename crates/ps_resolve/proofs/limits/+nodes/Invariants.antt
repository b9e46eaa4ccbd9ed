use Rattle.std.proofs.Common.{◌≡◌, ◌+◌, take, min, sum_by}
use Rattle.ps_parser.specs.SumView.{factor_tree, product_tree}
use Rattle.ps_names.specs.Limits.{factor_nodes, product_nodes}
use Rattle.ps_resolve.proofs.limits.+nodes.Given as goal

abbrev pub invariant-add_sum-each : goal.invariant-add_sum-each
invariant-add_sum-each l = l.count ≡ min (l.initial.count + sum_by (λ p. product_nodes (product_tree p)) (take l.product-index l.product-items)) 32768

abbrev pub invariant-add_product-each : goal.invariant-add_product-each
invariant-add_product-each l = l.count ≡ min (l.initial.count + sum_by (λ f. factor_nodes (factor_tree f)) (take l.factor-index l.factor-items)) 32768
