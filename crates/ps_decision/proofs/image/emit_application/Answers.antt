use Rattle.std.proofs.Common.{[], arith}
use Rattle.ps_model.specs.Steps.{action}
use Rattle.ps_model.proofs.Budgeting.{sum_next}
use Rattle.ps_decision.specs.Budget.{count_of_step}
use Rattle.ps_decision.specs.Code.{step_rows}
use Rattle.ps_decision.proofs.Counted.{are_calls, turns_few, sum_within_all}
use Rattle.ps_decision.proofs.WrittenRows.{element_next, step_long}
use Rattle.ps_decision.proofs.image.emit_application.Goals as goal

pub emit_step-requires-clause-room : goal.emit_step-requires-clause-room
emit_step-requires-clause-room c =
    let net = c.args.app.now in
    omega (arith, sum_within_all (count_of_step net) net.steps c.loop-k.k _ c.step.ensures, turns_few net c.sound.ensures, c.loop-k.invariant.few)

pub loop-k-preserved : goal.loop-k-preserved
loop-k-preserved c =
    let net = c.args.app.now in
    let here = action c.step.result.now in
    let k = c.loop-k.k in
    let code = c.loop-k.code.items in
    let written = c.in_ok-emit_step.ensures in
    record {
      written = element_next (step_rows net) [] net.steps k here c.step.ensures code c.loop-k.invariant.written _ written;
      few = omega (arith, step_long net here code _ (are_calls net c.sound.ensures k here c.step.ensures) written, sum_next (count_of_step net) net.steps k here c.step.ensures, c.loop-k.invariant.few);
    }
