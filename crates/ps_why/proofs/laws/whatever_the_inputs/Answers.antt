use Rattle.ps_why.proofs.Enough.{whatever_the_inputs}
use Rattle.ps_why.proofs.laws.whatever_the_inputs.Goals as goal

pub returns : goal.returns
returns c = whatever_the_inputs c.each_demands.ensures c.args.app.now c.sound.ensures
