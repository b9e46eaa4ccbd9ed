use Rattle.ps_language_laws.proofs.OfTexts.{has_one_map, has_one_run}
use Rattle.ps_language_laws.proofs.laws.one_map.Goals as goal

pub returns-clause-scan : goal.returns-clause-scan
returns-clause-scan c = has_one_map

pub returns-clause-run : goal.returns-clause-run
returns-clause-run c = has_one_run
