use Rattle.std.proofs.Common.{◌++◌, ap, sym, ◌∙◌}
use Rattle.ps_model.specs.Steps.{action}
use Rattle.ps_model.specs.Values.{values_of_step}
use Rattle.ps_machine.proofs.Encoding.{step_next}
use Rattle.ps_eqvm.specs.Code.{encoded, bytes_of, step_rows}
use Rattle.ps_eqgen.proofs.Shallow.{shallow_part}
use Rattle.ps_eqgen.proofs.image.emit_application.Goals as goal

pub emit_step-requires-clause-shallow : goal.emit_step-requires-clause-shallow
emit_step-requires-clause-shallow c =
    shallow_part values_of_step c.args.app.now.steps c.sound.ensures.values_shallow c.loop-k.k (action c.step.result.now) c.step.ensures

pub loop-k-preserved : goal.loop-k-preserved
loop-k-preserved c =
    let net = c.args.app.now in
    let here = action c.step.result.now in
    c.in_ok-emit_step.ensures
    ∙ ap (λ l. l ++ bytes_of (step_rows net here)) c.loop-k.invariant
    ∙ sym (step_next encoded (step_rows net) net.steps c.loop-k.k here c.step.ensures)
