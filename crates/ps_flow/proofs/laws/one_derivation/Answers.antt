use Rattle.ps_flow.proofs.OneAnswer.{one_certified}
use Rattle.ps_flow.proofs.laws.one_derivation.Goals as goal

pub returns : goal.returns
returns c = one_certified
