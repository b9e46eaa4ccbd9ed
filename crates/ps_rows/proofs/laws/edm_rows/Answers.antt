use Rattle.ps_rows.proofs.DevicesMonitored.{edm_decides}
use Rattle.ps_rows.proofs.laws.edm_rows.Goals as goal

pub returns : goal.returns
returns c = edm_decides
