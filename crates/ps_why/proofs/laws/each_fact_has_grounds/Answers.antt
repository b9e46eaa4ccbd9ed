use Rattle.ps_why.proofs.Grounded.{each_fact_has_grounds}
use Rattle.ps_why.proofs.laws.each_fact_has_grounds.Goals as goal

pub returns : goal.returns
returns c = each_fact_has_grounds c.args.app.now c.sound.ensures
