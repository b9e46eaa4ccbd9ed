use Rattle.ps_derived.proofs.Fronts as fronts
use Rattle.ps_derived.proofs.laws.one_spelling.Goals as goal

pub returns : goal.returns
returns c = fronts.one_spelling
