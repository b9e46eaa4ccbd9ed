use Rattle.ps_language_laws.proofs.Sources.{resolution, acceptance, demanding}
use Rattle.ps_language_laws.proofs.laws.every_source_is_read.Goals as goal

pub returns-clause-resolved : goal.returns-clause-resolved
returns-clause-resolved c = resolution

pub returns-clause-accepted : goal.returns-clause-accepted
returns-clause-accepted c = acceptance

pub returns-clause-demandable : goal.returns-clause-demandable
returns-clause-demandable c = demanding
