use Rattle.ps_demand.proofs.DemandHolds.{value_holds}
use Rattle.ps_demand.proofs.laws.values_meet_demands.Goals as goal

pub returns : goal.returns
returns c = λ accepted old ins dt new solves. value_holds c.args.app.now c.sound.ensures accepted c.each_demands.ensures old ins dt new solves
