use Rattle.ps_why.proofs.Enough.{why_is_enough}
use Rattle.ps_why.proofs.laws.why_is_enough.Goals as goal

pub returns : goal.returns
returns c = why_is_enough c.each_demands.ensures c.args.app.now c.sound.ensures
