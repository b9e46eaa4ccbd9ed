use Rattle.std.proofs.Common.{[], ◌∷◌, ◌-◌, length, sym, ap, subst, arith, length-append}
use Rattle.ps_parser.specs.declared.sign.Sign.TheVariants.{And, Or, RightBracket}
use Rattle.ps_parser.specs.Symbol.{Mark, symbols}
use Rattle.ps_parser.specs.SumView.{factor_tree, factor_trees, product_tree, product_trees}
use Rattle.ps_parser.specs.Phrase.{Reads, behind, just}
use Rattle.ps_parser.specs.Grammar.{a_factor, a_product, a_sum}
use Rattle.ps_parser.proofs.Phrases.{ReadsSome}
use Rattle.ps_parser.proofs.Expressions.{deep_refuses, group_refuses_sum, group_refuses_end, group_reads, product_refuses_first, product_refuses, product_reads, product_more, sum_refuses_first, sum_refuses, sum_reads, sum_more}
use Rattle.ps_parser.proofs.Views.{factor_tree-Group, product_tree-roll, sum_tree-roll}
use Rattle.ps_parser.proofs.Reading.{exit, rest_is_shorter}
use Rattle.ps_parser.proofs.read_expression.+expression.Goals as goal

pub factor-returns-in-Some-next_literal : goal.factor-returns-in-Some-next_literal
factor-returns-in-Some-next_literal t c = c.in-Some-next_literal.ensures.found c.args.limit

pub group-returns-then-limit-eq0 : goal.group-returns-then-limit-eq0
group-returns-then-limit-eq0 t c = deep_refuses c.args.limit _ _ c.if-limit-eq0.true c.requires

pub group-returns-in_err-value : goal.group-returns-in_err-value
group-returns-in_err-value t c =
    exit a_sum a_factor (c.args.limit - 1) c.args.limit _ _ (group_refuses_sum c.args.limit (c.args.limit - 1) (omega (arith, c.if-limit-eq0.false)) _ _ c.requires) _ _ _ _ c.from_residual.ensures.1 c.in_err-value.ensures

pub group-returns-in_err-rest : goal.group-returns-in_err-rest
group-returns-in_err-rest t c =
    exit (just (Mark RightBracket)) a_factor (c.args.limit - 1) c.args.limit _ _ (group_refuses_end c.args.limit (c.args.limit - 1) (omega (arith, c.if-limit-eq0.false)) _ _ c.requires _ _ c.in_ok-value.ensures) _ _ _ _ c.from_residual-in_err-rest.ensures.1 (c.in_err-rest.ensures (c.args.limit - 1))

pub group-returns : goal.group-returns
group-returns t c =
    group_reads c.args.limit (c.args.limit - 1) (omega (arith, c.if-limit-eq0.false)) _ _ c.requires _ _ _ _ (factor_tree-Group c.in_ok-value.value) c.in_ok-value.ensures (c.in_ok-rest.ensures (c.args.limit - 1))

pub product-returns-in_err-first : goal.product-returns-in_err-first
product-returns-in_err-first t c =
    let limit = c.args.limit in
    exit a_factor a_product limit limit _ _ (product_refuses_first limit _) _ _ _ _ c.from_residual.ensures.1 c.in_err-first.ensures

pub product-returns-in_err-next : goal.product-returns-in_err-next
product-returns-in_err-next t c =
    let limit = c.args.limit in
    exit a_factor a_product limit limit _ _ (product_refuses limit _ _ _ _ c.each.invariant.reads c.in-Some.ensures.found) _ _ _ _ c.from_residual-in_err-next.ensures.1 c.in_err-next.ensures

pub product-each-smaller : goal.product-each-smaller
product-each-smaller t c = rest_is_shorter _ _ _ _ _ c.in-Some.ensures.found c.in_ok-next.ensures.spelled

pub product-each-preserved : goal.product-each-preserved
product-each-preserved t c =
    let pushed = c.in_ok-push-2.ensures in
    record {
      some = omega (arith, ap length pushed, length-append (factor_trees c.each.factors) (factor_tree c.in_ok-next.next ∷ []));
      reads = subst (λ fs. ReadsSome (behind (Mark And) a_factor) c.args.limit (Mark And ∷ symbols c.args.tokens.now) fs (symbols c.in_ok-next.left.now)) (sym pushed)
          (product_more c.args.limit _ _ _ _ _ _ c.each.invariant.reads c.in-Some.ensures.found c.in_ok-next.ensures);
    }

pub product-returns : goal.product-returns
product-returns t c =
    subst (λ p. Reads a_product c.args.limit (symbols c.args.tokens.now) p (symbols c.each.rest.now)) (sym (product_tree-roll (record { factors = c.each.factors })))
    (product_reads c.args.limit _ _ _ c.each.invariant.some c.each.invariant.reads c.in_default.ensures.none)

pub sum-returns-in_err-first : goal.sum-returns-in_err-first
sum-returns-in_err-first t c =
    let limit = c.args.limit in
    exit a_product a_sum limit limit _ _ (sum_refuses_first limit _) _ _ _ _ c.from_residual.ensures.1 c.in_err-first.ensures

pub sum-returns-in_err-next : goal.sum-returns-in_err-next
sum-returns-in_err-next t c =
    let limit = c.args.limit in
    exit a_product a_sum limit limit _ _ (sum_refuses limit _ _ _ _ c.each.invariant.reads c.in-Some.ensures.found) _ _ _ _ c.from_residual-in_err-next.ensures.1 c.in_err-next.ensures

pub sum-each-smaller : goal.sum-each-smaller
sum-each-smaller t c = rest_is_shorter _ _ _ _ _ c.in-Some.ensures.found c.in_ok-next.ensures.spelled

pub sum-each-preserved : goal.sum-each-preserved
sum-each-preserved t c =
    let pushed = c.in_ok-push-2.ensures in
    record {
      some = omega (arith, ap length pushed, length-append (product_trees c.each.products) (product_tree c.in_ok-next.next ∷ []));
      reads = subst (λ ps. ReadsSome (behind (Mark Or) a_product) c.args.limit (Mark Or ∷ symbols c.args.tokens.now) ps (symbols c.in_ok-next.left.now)) (sym pushed)
          (sum_more c.args.limit _ _ _ _ _ _ c.each.invariant.reads c.in-Some.ensures.found c.in_ok-next.ensures);
    }

pub sum-returns : goal.sum-returns
sum-returns t c =
    subst (λ s. Reads a_sum c.args.limit (symbols c.args.tokens.now) s (symbols c.each.rest.now)) (sym (sum_tree-roll (record { products = c.each.products })))
    (sum_reads c.args.limit _ _ _ c.each.invariant.some c.each.invariant.reads c.in_default.ensures.none)
