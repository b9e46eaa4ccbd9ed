use Rattle.std.proofs.Common.{◌≡◌, ◌<◌, length, Some, slice_get, sym, subst}
use Rattle.ps_parser.specs.SumView.{product_tree}
use Rattle.ps_parser.proofs.Views.{product_trees-items, tree_at}
use Rattle.ps_parser.specs.declared.expression.Factor.TheViews.{out-Products}
use Rattle.ps_parser.proofs.expression.Products.at.Goals as goal

pub returns : goal.returns
returns c =
    let is = product_trees-items c.args.self.now in
    subst (λ l. slice_get l c.args.i ≡ Some (product_tree c.index.result.now)) (sym is)
    (tree_at product_tree (out-Products c.args.self.now).items.items c.args.i c.index.result.now (subst (λ l. c.args.i < length l) is c.requires) c.index.ensures)
