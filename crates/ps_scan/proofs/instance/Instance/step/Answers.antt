use Rattle.ps_scan.proofs.Stepping.{moves_as, shows_as}
use Rattle.ps_scan.proofs.instance.Instance.step.Goals as goal

pub returns-in-Equivalent-clause-moves : goal.returns-in-Equivalent-clause-moves
returns-in-Equivalent-clause-moves c = moves_as c.args.pins c.in-Equivalent.is c.step.ensures.moves

pub returns-in-Equivalent-clause-shows : goal.returns-in-Equivalent-clause-shows
returns-in-Equivalent-clause-shows c = shows_as c.in-Equivalent.is c.step.ensures.shows

pub returns-in-Antivalent-clause-moves : goal.returns-in-Antivalent-clause-moves
returns-in-Antivalent-clause-moves c = moves_as c.args.pins c.in-Antivalent.is c.step-in-Antivalent.ensures.moves

pub returns-in-Antivalent-clause-shows : goal.returns-in-Antivalent-clause-shows
returns-in-Antivalent-clause-shows c = shows_as c.in-Antivalent.is c.step-in-Antivalent.ensures.shows

pub returns-in-EmergencyStop-clause-moves : goal.returns-in-EmergencyStop-clause-moves
returns-in-EmergencyStop-clause-moves c = moves_as c.args.pins c.in-EmergencyStop.is c.step-in-EmergencyStop.ensures.moves

pub returns-in-EmergencyStop-clause-shows : goal.returns-in-EmergencyStop-clause-shows
returns-in-EmergencyStop-clause-shows c = shows_as c.in-EmergencyStop.is c.step-in-EmergencyStop.ensures.shows

pub returns-in-Espe-clause-moves : goal.returns-in-Espe-clause-moves
returns-in-Espe-clause-moves c = moves_as c.args.pins c.in-Espe.is c.step-in-Espe.ensures.moves

pub returns-in-Espe-clause-shows : goal.returns-in-Espe-clause-shows
returns-in-Espe-clause-shows c = shows_as c.in-Espe.is c.step-in-Espe.ensures.shows

pub returns-in-ModeSelector-clause-moves : goal.returns-in-ModeSelector-clause-moves
returns-in-ModeSelector-clause-moves c = moves_as c.args.pins c.in-ModeSelector.is c.step-in-ModeSelector.ensures.moves

pub returns-in-ModeSelector-clause-shows : goal.returns-in-ModeSelector-clause-shows
returns-in-ModeSelector-clause-shows c = shows_as c.in-ModeSelector.is c.step-in-ModeSelector.ensures.shows

pub returns-in-TwoHandTwo-clause-moves : goal.returns-in-TwoHandTwo-clause-moves
returns-in-TwoHandTwo-clause-moves c = moves_as c.args.pins c.in-TwoHandTwo.is c.step-in-TwoHandTwo.ensures.moves

pub returns-in-TwoHandTwo-clause-shows : goal.returns-in-TwoHandTwo-clause-shows
returns-in-TwoHandTwo-clause-shows c = shows_as c.in-TwoHandTwo.is c.step-in-TwoHandTwo.ensures.shows

pub returns-in-TwoHandThree-clause-moves : goal.returns-in-TwoHandThree-clause-moves
returns-in-TwoHandThree-clause-moves c = moves_as c.args.pins c.in-TwoHandThree.is c.step-in-TwoHandThree.ensures.moves

pub returns-in-TwoHandThree-clause-shows : goal.returns-in-TwoHandThree-clause-shows
returns-in-TwoHandThree-clause-shows c = shows_as c.in-TwoHandThree.is c.step-in-TwoHandThree.ensures.shows

pub returns-in-GuardMonitoring-clause-moves : goal.returns-in-GuardMonitoring-clause-moves
returns-in-GuardMonitoring-clause-moves c = moves_as c.args.pins c.in-GuardMonitoring.is c.step-in-GuardMonitoring.ensures.moves

pub returns-in-GuardMonitoring-clause-shows : goal.returns-in-GuardMonitoring-clause-shows
returns-in-GuardMonitoring-clause-shows c = shows_as c.in-GuardMonitoring.is c.step-in-GuardMonitoring.ensures.shows

pub returns-in-GuardLocking-clause-moves : goal.returns-in-GuardLocking-clause-moves
returns-in-GuardLocking-clause-moves c = moves_as c.args.pins c.in-GuardLocking.is c.step-in-GuardLocking.ensures.moves

pub returns-in-GuardLocking-clause-shows : goal.returns-in-GuardLocking-clause-shows
returns-in-GuardLocking-clause-shows c = shows_as c.in-GuardLocking.is c.step-in-GuardLocking.ensures.shows

pub returns-in-EnableSwitch-clause-moves : goal.returns-in-EnableSwitch-clause-moves
returns-in-EnableSwitch-clause-moves c = moves_as c.args.pins c.in-EnableSwitch.is c.step-in-EnableSwitch.ensures.moves

pub returns-in-EnableSwitch-clause-shows : goal.returns-in-EnableSwitch-clause-shows
returns-in-EnableSwitch-clause-shows c = shows_as c.in-EnableSwitch.is c.step-in-EnableSwitch.ensures.shows

pub returns-in-SafetyRequest-clause-moves : goal.returns-in-SafetyRequest-clause-moves
returns-in-SafetyRequest-clause-moves c = moves_as c.args.pins c.in-SafetyRequest.is c.step-in-SafetyRequest.ensures.moves

pub returns-in-SafetyRequest-clause-shows : goal.returns-in-SafetyRequest-clause-shows
returns-in-SafetyRequest-clause-shows c = shows_as c.in-SafetyRequest.is c.step-in-SafetyRequest.ensures.shows

pub returns-in-OutControl-clause-moves : goal.returns-in-OutControl-clause-moves
returns-in-OutControl-clause-moves c = moves_as c.args.pins c.in-OutControl.is c.step-in-OutControl.ensures.moves

pub returns-in-OutControl-clause-shows : goal.returns-in-OutControl-clause-shows
returns-in-OutControl-clause-shows c = shows_as c.in-OutControl.is c.step-in-OutControl.ensures.shows

pub returns-in-Edm-clause-moves : goal.returns-in-Edm-clause-moves
returns-in-Edm-clause-moves c = moves_as c.args.pins c.in-Edm.is c.step-in-Edm.ensures.moves

pub returns-in-Edm-clause-shows : goal.returns-in-Edm-clause-shows
returns-in-Edm-clause-shows c = shows_as c.in-Edm.is c.step-in-Edm.ensures.shows
