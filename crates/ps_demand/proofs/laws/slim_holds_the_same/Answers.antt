use Rattle.ps_demand.proofs.SlimHolds.{slim_holds}
use Rattle.ps_demand.proofs.laws.slim_holds_the_same.Goals as goal

pub returns : goal.returns
returns c = slim_holds
