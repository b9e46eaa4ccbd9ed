use Rattle.ps_model.proofs.Keeping.{count_down}
use Rattle.ps_model.proofs.block_laws.counts_down.Goals as goal

pub returns : goal.returns
returns c = count_down
