use Rattle.std.proofs.Common.{◌≡◌, ◌∙◌, ℕ, ap, arith, slice_set}
use Rattle.ps_bench_trials.specs.Lines.{more}
use Rattle.ps_bench_trials.proofs.Upto.{upto, upto_all, upto_more}
use Rattle.ps_bench_trials.proofs.line.add_table.Goals as goal

pub loop-column-preserved : goal.loop-column-preserved
loop-column-preserved c =
    ap (λ (n : ℕ). slice_set c.loop-column.table c.loop-column.column n) c.more.ensures
    ∙ upto_more more c.loop-column.column c.args.table.now c.args.other.now c.loop-column.table 0
    (omega (arith, c.loop-column-test.true, c.requires.table)) (omega (arith, c.loop-column-test.true, c.requires.other))
    c.loop-column.invariant

pub returns : goal.returns
returns c =
    let all : c.loop-column.column ≡ 33 = omega (arith, c.loop-column-test.false, c.loop-column.auto.column-end) in
    c.loop-column.invariant ∙ ap (λ (n : ℕ). upto more n c.args.table.now c.args.other.now) all
    ∙ upto_all more 33 c.args.table.now c.args.other.now c.requires.table c.requires.other
