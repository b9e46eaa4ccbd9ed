use Rattle.std.proofs.Common.{sym}
use Rattle.ps_machine.proofs.FreePins.{free_is_off}
use Rattle.ps_machine.proofs.calls.free_value.Goals as goal

pub returns-in_default : goal.returns-in_default
returns-in_default c = sym (free_is_off c.args.kind c.args.j c.in_default.not-Antivalent)
