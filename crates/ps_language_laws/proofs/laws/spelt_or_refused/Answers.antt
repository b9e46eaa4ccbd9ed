use Rattle.ps_language_laws.proofs.Spelling.{spelling_decided}
use Rattle.ps_language_laws.proofs.laws.spelt_or_refused.Goals as goal

pub returns : goal.returns
returns c = spelling_decided
