use Rattle.std.proofs.Common.{arith}
use Rattle.std.proofs.lemmas.Grind.{common_steps}
use Rattle.ps_model.specs.Nodes.{nodes_at_pin}
use Rattle.ps_model.specs.Budgets.{equation_rows_at_pin}
use Rattle.ps_model.proofs.Budgeting.{part_of_all, sum_next}
use Rattle.ps_model.proofs.budget.equation_rows_of_pins.Goals as goal

pub equation_rows_at_pin-total-requires : goal.equation_rows_at_pin-total-requires
equation_rows_at_pin-total-requires c =
    omega (arith, part_of_all nodes_at_pin c.args.args.now c.loop-j.j _ c.at.ensures, c.requires.nodes)

pub loop-j-preserved : goal.loop-j-preserved
loop-j-preserved c =
    let next = sum_next equation_rows_at_pin c.args.args.now c.loop-j.j _ c.at.ensures in
    grind (arith, common_steps)
