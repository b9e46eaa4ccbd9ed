use Rattle.std.proofs.Common.{◌≡◌}
use Rattle.ps_bench_cover.proofs.operand.+place.Given as goal

abbrev pub invariant-product_place-loop-factor : goal.invariant-product_place-loop-factor
invariant-product_place-loop-factor l = l.factor-index ≡ 0

abbrev pub invariant-sum_place-loop-product : goal.invariant-sum_place-loop-product
invariant-sum_place-loop-product l = l.product-index ≡ 0
