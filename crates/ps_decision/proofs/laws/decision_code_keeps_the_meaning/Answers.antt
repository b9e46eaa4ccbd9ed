use Rattle.ps_decision.proofs.Scanning.{keeps_meaning}
use Rattle.ps_decision.proofs.laws.decision_code_keeps_the_meaning.Goals as goal

pub returns : goal.returns
returns c = λ accepted sizes are. keeps_meaning c.args.app.now c.sound.ensures accepted sizes are
