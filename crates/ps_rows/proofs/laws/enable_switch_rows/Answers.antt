use Rattle.ps_rows.proofs.Enabling.{enable_switch_decides}
use Rattle.ps_rows.proofs.laws.enable_switch_rows.Goals as goal

pub returns : goal.returns
returns c = enable_switch_decides
