use Rattle.ps_rows.proofs.Antivalence.{antivalent_decides}
use Rattle.ps_rows.proofs.laws.antivalent_rows.Goals as goal

pub returns : goal.returns
returns c = antivalent_decides
