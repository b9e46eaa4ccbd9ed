use Rattle.ps_demand.proofs.RunsHold.{runs_hold}
use Rattle.ps_model.specs.Meaning.{nothing}
use Rattle.ps_accepted.proofs.Keeping.{resolved_sound}
use Rattle.ps_top.proofs.laws.lines_meet_demands.Goals as goal

pub returns : goal.returns
returns c = λ source net items ws flows runs. runs_hold net (resolved_sound source net flows.0) flows.1 c.each_demands.ensures nothing items ws runs
