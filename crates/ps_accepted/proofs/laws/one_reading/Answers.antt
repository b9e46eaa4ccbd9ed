use Rattle.ps_accepted.proofs.OneReading.{one_resolution}
use Rattle.ps_accepted.proofs.OneBreach.{one_acceptance}
use Rattle.ps_accepted.proofs.Demandable.{one_demanding}
use Rattle.ps_accepted.proofs.laws.one_reading.Goals as goal

pub returns-clause-resolved : goal.returns-clause-resolved
returns-clause-resolved c = one_resolution

pub returns-clause-accepted : goal.returns-clause-accepted
returns-clause-accepted c = one_acceptance

pub returns-clause-demanded : goal.returns-clause-demanded
returns-clause-demanded c = one_demanding
