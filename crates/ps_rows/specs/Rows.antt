-- The mask rows of the kinds. They stand once, in the code, and are read here.
use Rattle.std.specs.Prelude.{List}
use Rattle.ps_model.specs.declared.kind.Kind.{Kind}
use Rattle.ps_model.specs.declared.kind.Kind.TheVariants.{Equivalent, Antivalent, EmergencyStop, Espe, ModeSelector}
use Rattle.ps_model.specs.declared.kind.Kind.TheVariants.{TwoHandTwo, TwoHandThree, GuardMonitoring, GuardLocking}
use Rattle.ps_model.specs.declared.kind.Kind.TheVariants.{EnableSwitch, SafetyRequest, OutControl, Edm}
use Rattle.ps_rows.specs.declared.mask_row.MaskRow.{MaskRow}
use Rattle.ps_rows.specs.declared.equivalent.TheConstants.{EQUIVALENT}
use Rattle.ps_rows.specs.declared.stop.TheConstants.{STOP}
use Rattle.ps_rows.specs.declared.modes.TheConstants.{MODES}
use Rattle.ps_rows.specs.declared.two_hand_two.TheConstants.{TWO_HAND_TWO}
use Rattle.ps_rows.specs.declared.two_hand_three.TheConstants.{TWO_HAND_THREE}
use Rattle.ps_rows.specs.declared.guard_monitoring.TheConstants.{GUARD_MONITORING}
use Rattle.ps_rows.specs.declared.guard_locking.TheConstants.{GUARD_LOCKING}
use Rattle.ps_rows.specs.declared.enable_switch.TheConstants.{ENABLE_SWITCH}
use Rattle.ps_rows.specs.declared.safety_request.TheConstants.{SAFETY_REQUEST}
use Rattle.ps_rows.specs.declared.out_control.TheConstants.{OUT_CONTROL}
use Rattle.ps_rows.specs.declared.edm.TheConstants.{EDM}

-- SF_Antivalent has the rows of SF_Equivalent, and SF_ESPE those of SF_EmergencyStop.
abbrev pub rows_of : Kind → List MaskRow
rows_of Equivalent = EQUIVALENT
rows_of Antivalent = EQUIVALENT
rows_of EmergencyStop = STOP
rows_of Espe = STOP
rows_of ModeSelector = MODES
rows_of TwoHandTwo = TWO_HAND_TWO
rows_of TwoHandThree = TWO_HAND_THREE
rows_of GuardMonitoring = GUARD_MONITORING
rows_of GuardLocking = GUARD_LOCKING
rows_of EnableSwitch = ENABLE_SWITCH
rows_of SafetyRequest = SAFETY_REQUEST
rows_of OutControl = OUT_CONTROL
rows_of Edm = EDM
