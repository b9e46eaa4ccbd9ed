use Rattle.ps_language_laws.proofs.Flow.{flow_decided}
use Rattle.ps_language_laws.proofs.laws.accepted_or_breaks.Goals as goal

pub returns : goal.returns
returns c = flow_decided
