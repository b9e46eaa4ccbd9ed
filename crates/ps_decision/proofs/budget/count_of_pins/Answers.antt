use Rattle.std.proofs.Common.{arith}
use Rattle.std.proofs.lemmas.Grind.{common_steps}
use Rattle.ps_model.proofs.Budgeting.{sum_next}
use Rattle.ps_decision.specs.Budget.{count_at_pin}
use Rattle.ps_decision.proofs.Counted.{sum_within}
use Rattle.ps_decision.proofs.budget.count_of_pins.Goals as goal

pub count_at_pin-total-requires : goal.count_at_pin-total-requires
count_at_pin-total-requires c =
    omega (arith, sum_within count_at_pin c.args.args.now c.loop-j.j c.args.count _ c.at.ensures c.loop-j-test.true, c.requires.small)

pub overflow_add-total : goal.overflow_add-total
overflow_add-total c =
    omega (arith, sum_within count_at_pin c.args.args.now c.loop-j.j c.args.count _ c.at.ensures c.loop-j-test.true, c.requires.small, c.loop-j.invariant, c.count_at_pin-total.ensures)

pub loop-j-preserved : goal.loop-j-preserved
loop-j-preserved c =
    let next = sum_next count_at_pin c.args.args.now c.loop-j.j _ c.at.ensures in
    grind (arith, common_steps)
