use Rattle.ps_rows.proofs.Sensing.{espe_decides}
use Rattle.ps_rows.proofs.laws.espe_rows.Goals as goal

pub returns : goal.returns
returns c = espe_decides
