use Rattle.std.proofs.Common.{◌∙◌, ◌<◌, ◌+◌, length, ap, sym, arith}
use Rattle.std.proofs.lemmas.List.Sums.{count_by_more_yes, count_by_more_no}
use Rattle.std.proofs.lemmas.Option.{get_or_from_slice_get}
use Rattle.ps_model.specs.declared.report.Diag.{Diag}
use Rattle.ps_runs.proofs.counting.count_errors.Goals as goal
use Rattle.ps_runs.proofs.counting.count_errors.Goals.{then-at, else-at}

pub instances-preserved : goal.instances-preserved
instances-preserved c =
    let all = c.args.report.now.diags in
    let within : c.instances.i < length all = omega arith in
    let here = ap (λ (d : Diag). d.error) (get_or_from_slice_get all c.instances.i c.at.result c.at.result c.at.ensures) in
    elim c.if-at.branch [
      | then-at w ↦
          w.count-is ∙ ap (λ n. n + 1) c.instances.invariant ∙ sym (count_by_more_yes (λ (d : Diag). d.error) all c.instances.i c.at.result within (here ∙ w.if-at.true))
      | else-at w ↦ w.count-is ∙ c.instances.invariant ∙ sym (count_by_more_no (λ (d : Diag). d.error) all c.instances.i c.at.result within (here ∙ w.if-at.false))
    ]
