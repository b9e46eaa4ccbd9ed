use Rattle.ps_rows.proofs.Controlling.{out_control_decides}
use Rattle.ps_rows.proofs.laws.out_control_rows.Goals as goal

pub returns : goal.returns
returns c = out_control_decides
