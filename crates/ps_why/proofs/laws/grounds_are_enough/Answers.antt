use Rattle.ps_why.proofs.Enough.{grounds_are_enough}
use Rattle.ps_why.proofs.laws.grounds_are_enough.Goals as goal

pub returns : goal.returns
returns c = grounds_are_enough c.each_demands.ensures
