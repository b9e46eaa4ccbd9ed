use Rattle.std.proofs.Common.{min, ◌+◌, sum_by, length, ap, sym, ◌∙◌, arith}
use Rattle.std.proofs.lemmas.List.{take_all}
use Rattle.ps_parser.specs.SumView.{factor_tree, product_tree}
use Rattle.ps_names.specs.Limits.{factor_nodes, product_nodes}
use Rattle.ps_resolve.specs.Counting.{extra_of}
use Rattle.ps_resolve.proofs.NodeCounts.{product_count, sum_count, all_counted}
use Rattle.ps_resolve.proofs.limits.+nodes.Goals as goal

pub add_product-returns : goal.add_product-returns
add_product-returns t c =
    let xs = c.deref-factor-items.result.now in
    all_counted c.args.so_far c.add_join-count.result c.each.count (sum_by (λ f. factor_nodes (factor_tree f)) xs) (extra_of c.len.result) _ 32768 c.add_join-count.ensures
    (c.each.invariant ∙ ap (λ l. min (c.add_join-count.result + sum_by (λ f. factor_nodes (factor_tree f)) l) 32768) (take_all c.each.factor-index xs (omega arith)))
    (product_count c.args.product.now ∙ ap (λ l. extra_of (length l) + sum_by (λ f. factor_nodes (factor_tree f)) l) (sym c.deref-factor-items.ensures.value)
    ∙ ap (λ n. extra_of n + sum_by (λ f. factor_nodes (factor_tree f)) xs) (c.deref-factor-items.ensures.len ∙ sym c.len.ensures))

pub add_sum-returns : goal.add_sum-returns
add_sum-returns t c =
    let xs = c.deref-product-items.result.now in
    all_counted c.args.so_far c.add_join-count.result c.each.count (sum_by (λ p. product_nodes (product_tree p)) xs) (extra_of c.len.result) _ 32768 c.add_join-count.ensures
    (c.each.invariant ∙ ap (λ l. min (c.add_join-count.result + sum_by (λ p. product_nodes (product_tree p)) l) 32768) (take_all c.each.product-index xs (omega arith)))
    (sum_count c.args.sum.now ∙ ap (λ l. extra_of (length l) + sum_by (λ p. product_nodes (product_tree p)) l) (sym c.deref-product-items.ensures.value)
    ∙ ap (λ n. extra_of n + sum_by (λ p. product_nodes (product_tree p)) xs) (c.deref-product-items.ensures.len ∙ sym c.len.ensures))
