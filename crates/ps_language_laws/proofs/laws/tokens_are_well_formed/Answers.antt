use Rattle.ps_language_laws.proofs.WellFormed.{well_formed}
use Rattle.ps_language_laws.proofs.laws.tokens_are_well_formed.Goals as goal

pub returns : goal.returns
returns c = well_formed
