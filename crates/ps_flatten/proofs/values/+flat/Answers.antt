use Rattle.std.proofs.Common.{map, ap, ◌∙◌, sym, refl, arith}
use Rattle.std.proofs.lemmas.List.{take_all}
use Rattle.ps_parser.specs.SumView.{factor_tree, product_tree}
use Rattle.ps_parser.specs.Tree.{product_of, sum_of}
use Rattle.ps_parser.proofs.Views.{product_tree-roll, sum_tree-roll}
use Rattle.ps_derived.specs.Flat.{factor_flat, product_flat, sum_flat}
use Rattle.ps_derived.proofs.Trees.{product_tree-items, sum_tree-items}
use Rattle.ps_flatten.specs.Laying.{blocks_seen}
use Rattle.ps_flatten.proofs.Mapping.{product_made, sum_made}
use Rattle.ps_flatten.proofs.values.+flat.Goals as goal

pub product_flat-returns : goal.product_flat-returns
product_flat-returns t c =
    let h = factor_flat (blocks_seen c.args.body.now.blocks.now) c.args.body.now.scope.now in
    let p = product_flat (blocks_seen c.args.body.now.blocks.now) c.args.body.now.scope.now in
    product_tree-roll (record { factors = c.each.factors })
    ∙ ap product_of (c.each.invariant ∙ ap (map (λ f. h (factor_tree f))) (take_all c.each.factor-index c.deref-factor-items.result.now (omega arith)))
    ∙ product_made h p refl (λ f fs. refl) c.deref-factor-items.result.now
    ∙ ap (λ fs. p (product_of (map factor_tree fs))) c.deref-factor-items.ensures.value
    ∙ ap p (sym (product_tree-items _))

pub sum_flat-returns : goal.sum_flat-returns
sum_flat-returns t c =
    let h = product_flat (blocks_seen c.args.body.now.blocks.now) c.args.body.now.scope.now in
    let s = sum_flat (blocks_seen c.args.body.now.blocks.now) c.args.body.now.scope.now in
    sum_tree-roll (record { products = c.each.products })
    ∙ ap sum_of (c.each.invariant ∙ ap (map (λ p. h (product_tree p))) (take_all c.each.product-index c.deref-product-items.result.now (omega arith)))
    ∙ sum_made h s refl (λ p ps. refl) c.deref-product-items.result.now
    ∙ ap (λ ps. s (sum_of (map product_tree ps))) c.deref-product-items.ensures.value
    ∙ ap s (sym (sum_tree-items _))
