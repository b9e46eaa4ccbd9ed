use Rattle.std.proofs.Common.{arith}
use Rattle.std.proofs.lemmas.Grind.{common_steps}
use Rattle.ps_model.specs.Nodes.{nodes_of_step}
use Rattle.ps_model.specs.Budgets.{equation_rows_of_step}
use Rattle.ps_model.proofs.Budgeting.{part_of_all, sum_next}
use Rattle.ps_model.proofs.Counting.{few_steps}
use Rattle.ps_model.proofs.app.App.turns_b.Goals as goal

pub equation_rows_of_step-turns-requires-clause-nodes : goal.equation_rows_of_step-turns-requires-clause-nodes
equation_rows_of_step-turns-requires-clause-nodes c =
    omega (arith, part_of_all nodes_of_step c.args.self.now.steps c.loop-k.k _ c.step.ensures, c.sound.ensures.few_nodes)

pub overflow_add-turns : goal.overflow_add-turns
overflow_add-turns c = omega (arith, few_steps c.args.self.now c.sound.ensures, c.sound.ensures.few_signals)

pub loop-k-preserved : goal.loop-k-preserved
loop-k-preserved c =
    let next = sum_next (equation_rows_of_step c.args.self.now) c.args.self.now.steps c.loop-k.k _ c.step.ensures in
    grind (arith, common_steps)
