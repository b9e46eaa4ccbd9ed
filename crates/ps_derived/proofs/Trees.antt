-- The trees of products and sums, by their items.
use Rattle.std.proofs.Common.{◌≡◌, map, ap, ◌∙◌}
use Rattle.ps_parser.specs.declared.expression.Product.{Product}
use Rattle.ps_parser.specs.declared.expression.Sum.{Sum}
use Rattle.ps_parser.specs.declared.expression.Factor.TheViews.{out-Products, out-Sum}
use Rattle.ps_parser.specs.Tree.{product_of, sum_of}
use Rattle.ps_parser.specs.SumView.{factor_tree, product_tree, sum_tree}
use Rattle.ps_parser.proofs.Views.{factor_trees-items, product_tree-factors, product_trees-items, sum_tree-products}

pub product_tree-items : (p : Product) → product_tree p ≡ product_of (map factor_tree p.factors.items.items)
product_tree-items p = product_tree-factors p ∙ ap product_of (factor_trees-items p.factors)

pub sum_tree-items : (s : Sum) → sum_tree s ≡ sum_of (map product_tree (out-Products (out-Sum s).products).items.items)
sum_tree-items s = sum_tree-products s ∙ ap sum_of (product_trees-items (out-Sum s).products)
