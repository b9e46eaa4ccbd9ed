use Rattle.ps_model.proofs.Keeping.{heals}
use Rattle.ps_model.proofs.block_laws.heals.Goals as goal

pub returns : goal.returns
returns c = heals
