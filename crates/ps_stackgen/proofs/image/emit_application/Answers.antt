use Rattle.std.proofs.Common.{◌++◌, ap, sym, ◌∙◌}
use Rattle.ps_model.specs.Steps.{action}
use Rattle.ps_machine.proofs.Encoding.{step_next}
use Rattle.ps_stackvm.specs.Code.{encoded, bytes_of, step_code}
use Rattle.ps_stackgen.proofs.image.emit_application.Goals as goal

pub loop-k-preserved : goal.loop-k-preserved
loop-k-preserved c =
    let net = c.args.app.now in
    let here = action c.step.result.now in
    c.in_ok-emit_step.ensures
    ∙ ap (λ l. l ++ bytes_of (step_code net here)) c.loop-k.invariant
    ∙ sym (step_next encoded (step_code net) net.steps c.loop-k.k here c.step.ensures)
