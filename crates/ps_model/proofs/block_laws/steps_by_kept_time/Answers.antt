use Rattle.ps_model.proofs.Keeping.{step_is_moved}
use Rattle.ps_model.proofs.block_laws.steps_by_kept_time.Goals as goal

pub returns : goal.returns
returns c = step_is_moved
