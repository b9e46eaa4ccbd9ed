use Rattle.std.proofs.Common.{◌∙◌, ◌<◌, ◌+◌, length, ap, sym, arith}
use Rattle.std.proofs.lemmas.List.Sums.{count_by_more_yes, count_by_more_no}
use Rattle.std.proofs.lemmas.Option.{get_or_from_slice_get}
use Rattle.ps_runs.proofs.counting.count_outputs.Goals as goal
use Rattle.ps_runs.proofs.counting.count_outputs.Goals.{then-at, else-at}

pub outputs-preserved : goal.outputs-preserved
outputs-preserved c =
    let all = c.args.report.now.outs in
    let within : c.outputs.i < length all = omega arith in
    let here = ap (λ out. out) (get_or_from_slice_get all c.outputs.i c.at.result c.at.result c.at.ensures) in
    elim c.if-at.branch [
      | then-at w ↦
          w.count-is ∙ ap (λ n. n + 1) c.outputs.invariant ∙ sym (count_by_more_yes (λ out. out) all c.outputs.i c.at.result within (here ∙ w.if-at.true))
      | else-at w ↦ w.count-is ∙ c.outputs.invariant ∙ sym (count_by_more_no (λ out. out) all c.outputs.i c.at.result within (here ∙ w.if-at.false))
    ]
