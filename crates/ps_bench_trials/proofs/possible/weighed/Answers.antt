use Rattle.std.proofs.Common.{◌≡◌, ◌*◌, ◌∙◌, ℕ, min, ap, arith}
use Rattle.std.specs.Prelude.{slice_index}
use Rattle.ps_outside.specs.Outside.{last_count}
use Rattle.ps_bench_trials.specs.Possible.{total, weight_of}
use Rattle.ps_bench_trials.proofs.Weighing.{one_more}
use Rattle.ps_bench_trials.proofs.possible.weighed.Goals as goal

pub loop-column-preserved : goal.loop-column-preserved
loop-column-preserved c =
    one_more (λ n. slice_index c.args.table.now n * weight_of c.args.weight n) c.loop-column.column c.loop-column.sum
    c.saturating_mul.result c.saturating_add-sum.result c.loop-column.invariant
    (c.saturating_mul.ensures ∙ ap (λ (w : ℕ). min (slice_index c.args.table.now c.loop-column.column * w) last_count) c.of.ensures)
    c.saturating_add-sum.ensures

pub returns : goal.returns
returns c =
    let all : c.loop-column.column ≡ 33 = omega (arith, c.loop-column-test.false, c.loop-column.auto.column-end) in
    c.loop-column.invariant ∙ ap (λ (n : ℕ). min (total (λ k. slice_index c.args.table.now k * weight_of c.args.weight k) n) last_count) all
