use Rattle.ps_language_laws.proofs.Deriving.{judged}
use Rattle.ps_language_laws.proofs.laws.derived_or_objected.Goals as goal

pub returns : goal.returns
returns c = judged
