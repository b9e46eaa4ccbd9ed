use Rattle.ps_top.proofs.Untripped as untripped
use Rattle.ps_top.proofs.laws.no_fault_no_trip.Goals as goal

pub returns-clause-trips : goal.returns-clause-trips
returns-clause-trips c = untripped.no_fault_no_trip

pub returns-clause-run : goal.returns-clause-run
returns-clause-run c = untripped.runs_tell_all

pub returns-clause-quiet_fault : goal.returns-clause-quiet_fault
returns-clause-quiet_fault c = untripped.quiet_faults_tell_all

pub returns-clause-fault : goal.returns-clause-fault
returns-clause-fault c = untripped.faults_tell_trips
