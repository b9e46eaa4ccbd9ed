use Rattle.std.proofs.Common.{◌++◌, map, take, ap, ◌∙◌, sym, arith}
use Rattle.std.specs.List.{flat_map}
use Rattle.std.proofs.lemmas.List.{take_all}
use Rattle.ps_parser.specs.Tree.{product_of, sum_of}
use Rattle.ps_parser.specs.SumView.{factor_tree, product_tree}
use Rattle.ps_names.specs.Uses.{read, factor_uses, product_uses, sum_uses}
use Rattle.ps_names.proofs.NamesAgain.{has_same, has_more}
use Rattle.ps_resolve.proofs.Trees.{product_tree-items, sum_tree-items}
use Rattle.ps_resolve.proofs.Walks.{factors_break, products_break}
use Rattle.ps_resolve.proofs.reads.+reads.Goals as goal

pub enter_product-each-preserved : goal.enter_product-each-preserved
enter_product-each-preserved t c = λ ns has.
    has_more (λ f. flat_map read (factor_uses (factor_tree f))) c.enter_factor.new.reads ns c.deref-factor-items.result.now c.each.factor-index c.factor-item.result c.factor-item.result c.each-test.true c.factor-item.is
    (c.in_ok-enter_factor.ensures (ns ++ flat_map (λ f. flat_map read (factor_uses (factor_tree f))) (take c.each.factor-index c.deref-factor-items.result.now)) (c.each.invariant ns has))

pub enter_product-returns : goal.enter_product-returns
enter_product-returns t c = λ ns has.
    has_same c.each.reads _ _
    (ap (λ l. ns ++ l)
    (ap (flat_map (λ f. flat_map read (factor_uses (factor_tree f)))) (take_all c.each.factor-index c.deref-factor-items.result.now (omega arith)) ∙ factors_break read c.deref-factor-items.result.now
    ∙ ap (λ fs. flat_map read (product_uses (product_of (map factor_tree fs)))) c.deref-factor-items.ensures.value
    ∙ ap (λ p. flat_map read (product_uses p)) (sym (product_tree-items _))))
    (c.each.invariant ns has)

pub enter_sum-each-preserved : goal.enter_sum-each-preserved
enter_sum-each-preserved t c = λ ns has.
    has_more (λ p. flat_map read (product_uses (product_tree p))) c.enter_product.new.reads ns c.deref-product-items.result.now c.each.product-index c.product-item.result c.product-item.result c.each-test.true c.product-item.is
    (c.in_ok-enter_product.ensures (ns ++ flat_map (λ p. flat_map read (product_uses (product_tree p))) (take c.each.product-index c.deref-product-items.result.now)) (c.each.invariant ns has))

pub enter_sum-returns : goal.enter_sum-returns
enter_sum-returns t c = λ ns has.
    has_same c.each.reads _ _
    (ap (λ l. ns ++ l)
    (ap (flat_map (λ p. flat_map read (product_uses (product_tree p)))) (take_all c.each.product-index c.deref-product-items.result.now (omega arith)) ∙ products_break read c.deref-product-items.result.now
    ∙ ap (λ ps. flat_map read (sum_uses (sum_of (map product_tree ps)))) c.deref-product-items.ensures.value
    ∙ ap (λ s. flat_map read (sum_uses s)) (sym (sum_tree-items _))))
    (c.each.invariant ns has)
