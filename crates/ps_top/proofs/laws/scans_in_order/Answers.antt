use Rattle.ps_top.proofs.Timely.{scans_timely}
use Rattle.ps_top.proofs.laws.scans_in_order.Goals as goal

pub returns : goal.returns
returns c = scans_timely
