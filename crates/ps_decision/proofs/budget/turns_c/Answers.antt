use Rattle.std.proofs.Common.{arith}
use Rattle.std.proofs.lemmas.Grind.{common_steps}
use Rattle.ps_model.proofs.Budgeting.{sum_next}
use Rattle.ps_decision.specs.Budget.{count_of_step}
use Rattle.ps_decision.proofs.Counted.{turns_few, sum_within_all}
use Rattle.ps_decision.proofs.budget.turns_c.Goals as goal

pub count_of_step-turns-requires-clause-small : goal.count_of_step-turns-requires-clause-small
count_of_step-turns-requires-clause-small c =
    let net = c.args.app.now in
    omega (arith, sum_within_all (count_of_step net) net.steps c.loop-k.k _ c.step.ensures, turns_few net c.sound.ensures)

pub overflow_add-turns : goal.overflow_add-turns
overflow_add-turns c =
    let net = c.args.app.now in
    omega (arith, sum_within_all (count_of_step net) net.steps c.loop-k.k _ c.step.ensures, turns_few net c.sound.ensures, c.loop-k.invariant, c.count_of_step-turns.ensures)

pub loop-k-preserved : goal.loop-k-preserved
loop-k-preserved c =
    let next = sum_next (count_of_step c.args.app.now) c.args.app.now.steps c.loop-k.k _ c.step.ensures in
    grind (arith, common_steps)
