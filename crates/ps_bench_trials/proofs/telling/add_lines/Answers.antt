use Rattle.std.proofs.Common.{◌∙◌, ◌++◌, ℕ, List, ap, arith}
use Rattle.std.specs.Prelude.{slice_index_or}
use Rattle.ps_bench_trials.specs.Lines.{no_trial}
use Rattle.ps_bench_trials.specs.Telling.{line_text}
use Rattle.ps_bench_trials.proofs.Growing.{all_told, lines_are, one_more}
use Rattle.ps_bench_trials.proofs.telling.add_lines.Goals as goal

pub returns : goal.returns
returns c =
    let lines = c.args.lines.now in
    all_told (λ place. line_text (slice_index_or lines place no_trial) place) c.loop-place.place 24 _ c.args.text.now c.loop-place.text (lines_are lines)
    (omega (arith, c.loop-place-test.false, c.loop-place.auto.place-end)) c.loop-place.invariant

pub loop-place-preserved : goal.loop-place-preserved
loop-place-preserved c =
    let lines = c.args.lines.now in
    let f : ℕ → List ℕ = λ place. line_text (slice_index_or lines place no_trial) place in
    one_more f c.loop-place.place c.args.text.now c.loop-place.text _ c.loop-place.invariant
    (c.in_ok-add_line.ensures ∙ ap (λ l. c.loop-place.text ++ line_text l c.loop-place.place) c.line_at.ensures)
