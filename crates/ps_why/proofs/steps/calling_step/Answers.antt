use Rattle.std.proofs.Common.{arith}
use Rattle.ps_machine.proofs.Steps.{stands_at}
use Rattle.ps_why.proofs.Making.{none_calls}
use Rattle.ps_why.proofs.steps.calling_step.Goals as goal

pub returns-then-i-instance_count : goal.returns-then-i-instance_count
returns-then-i-instance_count c = λ q. stands_at c.args.app.now c.sound.ensures c.args.i _ c.call_step.ensures.calls

pub returns-else-i-instance_count : goal.returns-else-i-instance_count
returns-else-i-instance_count c = λ q. none_calls c.args.app.now c.sound.ensures c.args.i (grind arith)
