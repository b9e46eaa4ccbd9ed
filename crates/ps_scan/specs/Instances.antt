-- What a scanner keeps of an instance.
use Rattle.ps_model.specs.declared.kind.Kind.{Kind}
use Rattle.ps_model.specs.declared.kind.Kind.TheVariants as kind
use Rattle.ps_model.specs.Kept.{Kept, fresh}
use Rattle.ps_sensors.specs.Contacts as contacts
use Rattle.ps_sensors.specs.Stop as stop
use Rattle.ps_operator.specs.ModeSelectorStates as mode_selector
use Rattle.ps_operator.specs.TwoHandTwoStates as two_hand_two
use Rattle.ps_operator.specs.TwoHandThreeStates as two_hand_three
use Rattle.ps_operator.specs.EnableSwitchStates as enable_switch
use Rattle.ps_guards.specs.GuardMonitoringStates as guard_monitoring
use Rattle.ps_guards.specs.GuardLockingStates as guard_locking
use Rattle.ps_actuators.specs.SafetyRequestStates as safety_request
use Rattle.ps_actuators.specs.OutControlStates as out_control
use Rattle.ps_actuators.specs.EdmStates as edm
use Rattle.ps_scan.specs.declared.instance.Instance.{Instance}
use Rattle.ps_scan.specs.declared.instance.Instance.TheVariants.{Equivalent, Antivalent, EmergencyStop, Espe}
use Rattle.ps_scan.specs.declared.instance.Instance.TheVariants.{ModeSelector, TwoHandTwo, TwoHandThree}
use Rattle.ps_scan.specs.declared.instance.Instance.TheVariants.{GuardMonitoring, GuardLocking, EnableSwitch}
use Rattle.ps_scan.specs.declared.instance.Instance.TheVariants.{SafetyRequest, OutControl, Edm}

-- An instance of a kind, and what is kept of it.
pub record KeptInstance : Type 0 where
  pub kind : Kind
  pub kept : Kept

-- The instance of a kind of which this is kept.
abbrev pub kept_instance : Kind → Kept → KeptInstance
kept_instance k kept = record { kind = k; kept = kept }

-- What is read past the instances.
abbrev pub no_kept_instance : KeptInstance
no_kept_instance = kept_instance kind.Equivalent fresh

-- The kind of a block's state, and what the state keeps.
abbrev pub instance_of : Instance → KeptInstance
instance_of (Equivalent s) = kept_instance kind.Equivalent (contacts.kept_of s)
instance_of (Antivalent s) = kept_instance kind.Antivalent (contacts.kept_of s)
instance_of (EmergencyStop s) = kept_instance kind.EmergencyStop (stop.kept_of s)
instance_of (Espe s) = kept_instance kind.Espe (stop.kept_of s)
instance_of (ModeSelector s) = kept_instance kind.ModeSelector (mode_selector.kept_of s)
instance_of (TwoHandTwo s) = kept_instance kind.TwoHandTwo (two_hand_two.kept_of s)
instance_of (TwoHandThree s) = kept_instance kind.TwoHandThree (two_hand_three.kept_of s)
instance_of (GuardMonitoring s) = kept_instance kind.GuardMonitoring (guard_monitoring.kept_of s)
instance_of (GuardLocking s) = kept_instance kind.GuardLocking (guard_locking.kept_of s)
instance_of (EnableSwitch s) = kept_instance kind.EnableSwitch (enable_switch.kept_of s)
instance_of (SafetyRequest s) = kept_instance kind.SafetyRequest (safety_request.kept_of s)
instance_of (OutControl s) = kept_instance kind.OutControl (out_control.kept_of s)
instance_of (Edm s) = kept_instance kind.Edm (edm.kept_of s)
