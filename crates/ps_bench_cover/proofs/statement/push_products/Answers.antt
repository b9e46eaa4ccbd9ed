use Rattle.std.proofs.Common.{◌≡◌, ◌<◌, ◌∙◌, ℕ, length, map, take, sym, ap, subst, arith}
use Rattle.std.proofs.lemmas.List.{length-map, take_all}
use Rattle.ps_parser.specs.SumView.{product_tree, product_trees}
use Rattle.ps_parser.proofs.Views.{product_trees-items}
use Rattle.ps_bench_cover.specs.Operands.{of_or}
use Rattle.ps_bench_cover.proofs.Joined.{few, many}
use Rattle.ps_bench_cover.proofs.statement.push_products.Goals as goal

pub returns-then-items-lt2 : goal.returns-then-items-lt2
returns-then-items-lt2 c =
    let all = c.args.products.now in
    let items = c.as_slice-items in
    let same = ap (map product_tree) items.ensures.value ∙ sym (product_trees-items all) in
    let size : length items.result.now ≡ length (product_trees all) = sym (length-map items.result.now product_tree) ∙ ap length same in
    few of_or (product_trees all) (subst (λ (n : ℕ). n < 2) size c.if-items-lt2.true) c.args.places.now.items

pub returns : goal.returns
returns c =
    let all = c.args.products.now in
    let items = c.as_slice-items in
    let i = c.loop-product.product-index in
    let same = ap (map product_tree) items.ensures.value ∙ sym (product_trees-items all) in
    let size : length items.result.now ≡ length (product_trees all) = sym (length-map items.result.now product_tree) ∙ ap length same in
    many of_or (product_trees all) (map product_tree (take i items.result.now))
    (ap (map product_tree) (take_all i items.result.now (omega arith)) ∙ same)
    (omega (arith, size, c.if-items-lt2.false)) c.args.places.now.items c.loop-product.places.items c.loop-product.invariant
