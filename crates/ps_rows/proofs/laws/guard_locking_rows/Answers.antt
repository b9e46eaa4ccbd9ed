use Rattle.ps_rows.proofs.GuardsLocked.{guard_locking_decides}
use Rattle.ps_rows.proofs.laws.guard_locking_rows.Goals as goal

pub returns : goal.returns
returns c = guard_locking_decides
