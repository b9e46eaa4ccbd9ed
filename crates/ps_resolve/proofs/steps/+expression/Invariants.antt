use Rattle.std.proofs.Common.{◌≡◌, map, take}
use Rattle.ps_model.specs.Exprs.{formula}
use Rattle.ps_resolve.proofs.steps.+expression.Given as goal
use Rattle.ps_names.specs.Stands.{product_formula, factor_formula}
use Rattle.ps_parser.specs.SumView.{factor_tree, product_tree}

abbrev pub invariant-sum_expr-each : goal.invariant-sum_expr-each
invariant-sum_expr-each l = map formula l.items.items ≡ map (λ p. product_formula l.numbering.entries.now (product_tree p)) (take l.product-index l.product-items)

abbrev pub invariant-product_expr-each : goal.invariant-product_expr-each
invariant-product_expr-each l = map formula l.items.items ≡ map (λ f. factor_formula l.numbering.entries.now (factor_tree f)) (take l.factor-index l.factor-items)
