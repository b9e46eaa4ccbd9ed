use Rattle.ps_language_laws.proofs.Named as named
use Rattle.ps_language_laws.proofs.nested_laws.names_are_numbers.Goals as goal

pub returns : goal.returns
returns c = named.names_are_numbers
