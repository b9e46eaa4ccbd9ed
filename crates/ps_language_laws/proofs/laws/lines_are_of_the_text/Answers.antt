use Rattle.ps_language_laws.proofs.OfTexts.{has_fields, are_of_maps, runs_tell_maps, faults_tell_maps}
use Rattle.ps_language_laws.proofs.laws.lines_are_of_the_text.Goals as goal

pub returns-clause-fields : goal.returns-clause-fields
returns-clause-fields c = has_fields

pub returns-clause-reports : goal.returns-clause-reports
returns-clause-reports c = are_of_maps

pub returns-clause-run : goal.returns-clause-run
returns-clause-run c = runs_tell_maps

pub returns-clause-fault : goal.returns-clause-fault
returns-clause-fault c = faults_tell_maps
