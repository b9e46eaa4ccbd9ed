use Rattle.ps_model.proofs.Outputs.{inactive_code, idle_outputs}
use Rattle.ps_model.proofs.block_laws.off_where_inactive.Goals as goal

pub returns : goal.returns
returns c = record { code = inactive_code; outputs = idle_outputs }
