use Rattle.ps_model.proofs.Runs.{has_one_meaning}
use Rattle.ps_model.proofs.laws.one_meaning.Goals as goal

pub returns : goal.returns
returns c = has_one_meaning c.args.app.now c.sound.ensures
