use Rattle.std.proofs.Common.{◌≡◌, ◌∙◌, ℕ, ap, arith, slice_set}
use Rattle.ps_bench_trials.specs.Lines.{added_line}
use Rattle.ps_bench_trials.specs.declared.line.Line.{Line}
use Rattle.ps_bench_trials.proofs.Upto.{upto, upto_all, upto_more}
use Rattle.ps_bench_trials.proofs.tally.add_lines.Goals as goal

pub loop-place-preserved : goal.loop-place-preserved
loop-place-preserved c =
    ap (λ (l : Line). slice_set c.loop-place.lines c.loop-place.place l) c.with_line.ensures
    ∙ upto_more added_line c.loop-place.place c.args.lines.now c.args.others.now c.loop-place.lines _
    (omega (arith, c.loop-place-test.true, c.requires.lines)) (omega (arith, c.loop-place-test.true, c.requires.others))
    c.loop-place.invariant

pub returns : goal.returns
returns c =
    let all : c.loop-place.place ≡ 24 = omega (arith, c.loop-place-test.false, c.loop-place.auto.place-end) in
    c.loop-place.invariant ∙ ap (λ (n : ℕ). upto added_line n c.args.lines.now c.args.others.now) all
    ∙ upto_all added_line 24 c.args.lines.now c.args.others.now c.requires.lines c.requires.others
