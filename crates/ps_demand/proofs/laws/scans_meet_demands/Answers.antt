use Rattle.ps_demand.proofs.RunsHold.{scan_holds}
use Rattle.ps_demand.proofs.laws.scans_meet_demands.Goals as goal

pub returns : goal.returns
returns c = λ accepted. scan_holds c.args.app.now c.sound.ensures accepted c.each_demands.ensures
