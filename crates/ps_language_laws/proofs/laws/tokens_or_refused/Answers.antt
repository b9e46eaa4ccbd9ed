use Rattle.ps_language_laws.proofs.Lexing.{tokens_decided}
use Rattle.ps_language_laws.proofs.laws.tokens_or_refused.Goals as goal

pub returns : goal.returns
returns c = tokens_decided
