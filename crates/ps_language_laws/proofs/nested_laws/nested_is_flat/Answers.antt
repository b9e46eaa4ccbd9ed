use Rattle.ps_language_laws.proofs.Whole as whole
use Rattle.ps_language_laws.proofs.nested_laws.nested_is_flat.Goals as goal

pub returns : goal.returns
returns c = whole.nested_is_flat
