use Rattle.ps_model.proofs.Sixteen.{step_kept}
use Rattle.ps_model.proofs.block_laws.steps_are_kept.Goals as goal

pub returns : goal.returns
returns c = step_kept
