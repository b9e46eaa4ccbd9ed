use Rattle.std.proofs.Common.{map, ap, ◌∙◌, sym, arith}
use Rattle.ps_model.specs.Formula.{all_of}
use Rattle.ps_model.specs.Exprs.{formula, operands}
use Rattle.ps_model.proofs.Formulas.{formula-And}
use Rattle.ps_parser.proofs.Views.{factor_tree-Lit, factor_tree-Time}
use Rattle.ps_resolve.proofs.Trees.{product_tree-items, sum_tree-items}
use Rattle.ps_resolve.proofs.Joining.{map_after_push, whole, factors_joined, products_joined}
use Rattle.ps_resolve.proofs.steps.+expression.Goals as goal
use Rattle.ps_parser.specs.SumView.{factor_tree, product_tree}
use Rattle.ps_parser.specs.Tree.{product_of, sum_of}
use Rattle.ps_names.specs.Stands.{factor_formula, product_formula, sum_formula, all_joined, any_joined, factor_formulas, product_formulas}

pub factor_expr-returns-in-Lit : goal.factor_expr-returns-in-Lit
factor_expr-returns-in-Lit t c =
    formula-And _ ∙ ap (λ l. all_of (operands (map formula l))) c.new.ensures.items
    ∙ sym (ap (factor_formula c.args.numbering.now.entries.now) (ap factor_tree c.in-Lit.is ∙ factor_tree-Lit _ _))

pub factor_expr-returns-in-Time : goal.factor_expr-returns-in-Time
factor_expr-returns-in-Time t c =
    formula-And _ ∙ ap (λ l. all_of (operands (map formula l))) c.new-in-Time.ensures.items
    ∙ sym (ap (factor_formula c.args.numbering.now.entries.now) (ap factor_tree c.in-Time.is ∙ factor_tree-Time _ _))

pub product_expr-each-preserved : goal.product_expr-each-preserved
product_expr-each-preserved t c =
    map_after_push formula (λ f. factor_formula c.args.numbering.now.entries.now (factor_tree f)) c.each.items.items c.push.new.self.items c.in_ok-item.item
    c.deref-factor-items.result.now c.each.factor-index c.factor-item.result c.each-test.true c.each.invariant
    (c.in_ok-item.ensures ∙ ap (λ f. factor_formula c.args.numbering.now.entries.now (factor_tree f)) c.factor-item.is) c.in_ok-push.ensures.items

pub product_expr-returns : goal.product_expr-returns
product_expr-returns t c =
    c.all_of.ensures ∙ ap (λ fs. all_joined (operands fs)) (c.each.invariant ∙ whole _ _ _ (omega arith))
    ∙ ap all_joined (factors_joined c.args.numbering.now.entries.now c.deref-factor-items.result.now)
    ∙ ap (λ fs. all_joined (factor_formulas c.args.numbering.now.entries.now (product_of (map factor_tree fs)))) c.deref-factor-items.ensures.value
    ∙ ap (product_formula c.args.numbering.now.entries.now) (sym (product_tree-items _))

pub sum_expr-each-preserved : goal.sum_expr-each-preserved
sum_expr-each-preserved t c =
    map_after_push formula (λ p. product_formula c.args.numbering.now.entries.now (product_tree p)) c.each.items.items c.push.new.self.items c.in_ok-item.item
    c.deref-product-items.result.now c.each.product-index c.product-item.result c.each-test.true c.each.invariant
    (c.in_ok-item.ensures ∙ ap (λ p. product_formula c.args.numbering.now.entries.now (product_tree p)) c.product-item.is) c.in_ok-push.ensures.items

pub sum_expr-returns : goal.sum_expr-returns
sum_expr-returns t c =
    c.any_of.ensures ∙ ap (λ fs. any_joined (operands fs)) (c.each.invariant ∙ whole _ _ _ (omega arith))
    ∙ ap any_joined (products_joined c.args.numbering.now.entries.now c.deref-product-items.result.now)
    ∙ ap (λ ps. any_joined (product_formulas c.args.numbering.now.entries.now (sum_of (map product_tree ps)))) c.deref-product-items.ensures.value
    ∙ ap (sum_formula c.args.numbering.now.entries.now) (sym (sum_tree-items _))
