use Rattle.ps_rows.proofs.Equivalence.{equivalent_decides}
use Rattle.ps_rows.proofs.laws.equivalent_rows.Goals as goal

pub returns : goal.returns
returns c = equivalent_decides
