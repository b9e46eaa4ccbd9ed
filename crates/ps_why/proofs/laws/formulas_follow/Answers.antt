use Rattle.ps_why.proofs.Enough.{formulas_follow}
use Rattle.ps_why.proofs.laws.formulas_follow.Goals as goal

pub returns : goal.returns
returns c = formulas_follow
