use Rattle.ps_model.proofs.Outputs.{error_exactly, ready_exactly}
use Rattle.ps_model.proofs.block_laws.errors_exactly.Goals as goal

pub returns : goal.returns
returns c = record { error = error_exactly; ready = ready_exactly }
