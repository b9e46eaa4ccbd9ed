use Rattle.ps_text.proofs.Inverse.{inverse}
use Rattle.ps_text.proofs.column_laws.columns_are_inverse.Goals as goal

pub returns : goal.returns
returns c = inverse
