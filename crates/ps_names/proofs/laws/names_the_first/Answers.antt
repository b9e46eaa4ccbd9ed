use Rattle.ps_names.proofs.Firsts.{refused_first}
use Rattle.ps_names.proofs.laws.names_the_first.Goals as goal

pub returns : goal.returns
returns c = refused_first
