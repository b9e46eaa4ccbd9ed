use Rattle.std.proofs.Common.{arith}
use Rattle.ps_why.proofs.Outputs.{driver_says, past_driver, past_undriven}
use Rattle.ps_why.proofs.signals.driver_of.Goals as goal

pub returns-then-s-signal_count-clause-is : goal.returns-then-s-signal_count-clause-is
returns-then-s-signal_count-clause-is c = c.driver.ensures

pub returns-then-s-signal_count-clause-drives : goal.returns-then-s-signal_count-clause-drives
returns-then-s-signal_count-clause-drives c = driver_says c.args.app.now c.sound.ensures c.args.s c.driver.result c.driver.ensures

pub returns-else-s-signal_count-clause-is : goal.returns-else-s-signal_count-clause-is
returns-else-s-signal_count-clause-is c = past_driver c.args.app.now c.sound.ensures c.args.s (grind arith)

pub returns-else-s-signal_count-clause-drives : goal.returns-else-s-signal_count-clause-drives
returns-else-s-signal_count-clause-drives c = past_undriven c.args.app.now c.sound.ensures c.args.s (grind arith)
