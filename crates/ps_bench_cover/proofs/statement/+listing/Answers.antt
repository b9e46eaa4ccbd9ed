use Rattle.std.proofs.Common.{arith}
use Rattle.ps_bench_cover.proofs.Walking.{product_listed, sum_listed}
use Rattle.ps_bench_cover.proofs.statement.+listing.Goals as goal

pub push_product-returns : goal.push_product-returns
push_product-returns t c =
    product_listed c.args.product.now c.deref-factor-items.result.now c.each.factor-index c.args.places.now.items c.push_factors.new.places.items c.each.places.items
    c.deref-factor-items.ensures.value (omega arith) c.in_ok-push_factors.ensures c.each.invariant

pub push_sum-returns : goal.push_sum-returns
push_sum-returns t c =
    sum_listed c.args.sum.now c.deref-product-items.result.now c.each.product-index c.args.places.now.items c.push_products.new.places.items c.each.places.items
    c.deref-product-items.ensures.value (omega arith) c.in_ok-push_products.ensures c.each.invariant
