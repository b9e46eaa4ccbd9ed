use Rattle.ps_demand.proofs.RunsHold.{runs_hold}
use Rattle.ps_demand.proofs.laws.runs_meet_demands.Goals as goal

pub returns : goal.returns
returns c = λ accepted. runs_hold c.args.app.now c.sound.ensures accepted c.each_demands.ensures
