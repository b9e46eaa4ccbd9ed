use Rattle.std.proofs.Common.{map, ap, ◌∙◌, sym, arith}
use Rattle.std.specs.List.{flat_map}
use Rattle.std.proofs.lemmas.List.{take_all}
use Rattle.ps_derived.proofs.Trees.{product_tree-items, sum_tree-items}
use Rattle.ps_offences.proofs.Walks.{factors_break, products_break}
use Rattle.ps_offences.proofs.uses.+uses.Goals as goal
use Rattle.ps_names.specs.Offences.{noted}
use Rattle.ps_offences.specs.BlockRules.{misused}
use Rattle.ps_names.specs.Uses.{factor_uses, product_uses, sum_uses}
use Rattle.ps_parser.specs.SumView.{factor_tree, product_tree}
use Rattle.ps_parser.specs.Tree.{product_of, sum_of}

pub check_product-returns : goal.check_product-returns
check_product-returns t c =
    let g = misused c.args.body.now.before.now c.args.body.now.scope.now in
    c.each.invariant ∙ ap (noted c.args.found)
    (ap (flat_map (λ f. flat_map g (factor_uses (factor_tree f)))) (take_all c.each.factor-index c.deref-factor-items.result.now (omega arith)) ∙ factors_break g c.deref-factor-items.result.now
    ∙ ap (λ fs. flat_map g (product_uses (product_of (map factor_tree fs)))) c.deref-factor-items.ensures.value
    ∙ ap (λ p. flat_map g (product_uses p)) (sym (product_tree-items _)))

pub check_sum-returns : goal.check_sum-returns
check_sum-returns t c =
    let g = misused c.args.body.now.before.now c.args.body.now.scope.now in
    c.each.invariant ∙ ap (noted c.args.found)
    (ap (flat_map (λ p. flat_map g (product_uses (product_tree p)))) (take_all c.each.product-index c.deref-product-items.result.now (omega arith)) ∙ products_break g c.deref-product-items.result.now
    ∙ ap (λ ps. flat_map g (sum_uses (sum_of (map product_tree ps)))) c.deref-product-items.ensures.value
    ∙ ap (λ s. flat_map g (sum_uses s)) (sym (sum_tree-items _)))
