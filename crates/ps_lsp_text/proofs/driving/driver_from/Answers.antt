use Rattle.std.proofs.Common.{arith}
use Rattle.ps_lsp_text.proofs.Drivers.{none_drives}
use Rattle.ps_lsp_text.proofs.driving.driver_from.Goals as goal

pub returns-clause-none : goal.returns-clause-none
returns-clause-none c = none_drives c.args.tokens.now c.args.name.now c.args.«from» c.loop-at.at c.loop-at.invariant (omega arith)
