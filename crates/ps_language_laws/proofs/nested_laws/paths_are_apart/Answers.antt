use Rattle.ps_language_laws.proofs.Plainly as plainly
use Rattle.ps_language_laws.proofs.nested_laws.paths_are_apart.Goals as goal

pub returns : goal.returns
returns c = plainly.paths_are_apart
