use Rattle.ps_model.proofs.Keeping.{go_on}
use Rattle.ps_model.proofs.block_laws.goes_on.Goals as goal

pub returns : goal.returns
returns c = go_on
