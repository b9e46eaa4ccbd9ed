use Rattle.ps_rows.proofs.GuardsMonitored.{guard_monitoring_decides}
use Rattle.ps_rows.proofs.laws.guard_monitoring_rows.Goals as goal

pub returns : goal.returns
returns c = guard_monitoring_decides
