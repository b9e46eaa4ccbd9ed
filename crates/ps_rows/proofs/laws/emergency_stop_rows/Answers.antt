use Rattle.ps_rows.proofs.Stopping.{emergency_stop_decides}
use Rattle.ps_rows.proofs.laws.emergency_stop_rows.Goals as goal

pub returns : goal.returns
returns c = emergency_stop_decides
