use Rattle.ps_model.proofs.LongerRuns.{runs_are_of_parts}
use Rattle.ps_model.proofs.laws.runs_of_parts.Goals as goal

pub returns : goal.returns
returns c = λ past items more ws. runs_are_of_parts c.args.app.now past items more ws
