use Rattle.ps_model.proofs.Sixteen.{loads_one}
use Rattle.ps_model.proofs.block_laws.stands_for_one.Goals as goal

pub returns : goal.returns
returns c = loads_one
