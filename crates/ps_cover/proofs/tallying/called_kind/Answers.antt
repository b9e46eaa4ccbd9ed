use Rattle.std.proofs.Common.{◌∙◌, Some, ap, sym, arith}
use Rattle.std.proofs.lemmas.Option.{slice_get_past}
use Rattle.ps_model.specs.Steps.{action}
use Rattle.ps_cover.specs.Tallying.{called_kind}
use Rattle.ps_cover.proofs.tallying.called_kind.Goals as goal

pub returns-then-k-step_count : goal.returns-then-k-step_count
returns-then-k-step_count c =
    let net = c.args.app.now in
    sym (ap (called_kind net) (slice_get_past net.steps c.args.k (omega (arith, c.if-k-step_count.true, c.step_count.ensures))))

pub returns-in-Call : goal.returns-in-Call
returns-in-Call c = c.instance_kind.ensures ∙ sym (ap (called_kind c.args.app.now) (c.step.ensures ∙ ap (λ s. Some (action s)) c.in-Call.is))

pub returns-in-Assign : goal.returns-in-Assign
returns-in-Assign c = sym (ap (called_kind c.args.app.now) (c.step.ensures ∙ ap (λ s. Some (action s)) c.in-Assign.is))
