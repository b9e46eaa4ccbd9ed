use Rattle.std.proofs.Common.{◌∙◌, ap}
use Rattle.std.proofs.lemmas.Result.{IfOk-weaker}
use Rattle.std.specs.List.{flat_map}
use Rattle.ps_message.specs.NoteLine.{note_text}
use Rattle.ps_bench_report.proofs.texts.notes_of.Goals as goal

pub returns : goal.returns
returns c = IfOk-weaker c.lines_of.result _ _
    (λ lines is. is ∙ ap (flat_map (note_text c.args.name.now c.args.app.now)) (c.as_slice.ensures.value ∙ c.in_ok-placed.ensures.placed))
    c.lines_of.ensures
