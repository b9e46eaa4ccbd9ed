-- The states of SF_GuardMonitoring.
use Rattle.std.specs.Prelude.{ℕ, false}
use Rattle.ps_guards.specs.declared.guard_monitoring.Phase.{Phase}
use Rattle.ps_guards.specs.declared.guard_monitoring.Phase.TheVariants.{Idle, Init, OpenGuardRequest, GuardOpened}
use Rattle.ps_guards.specs.declared.guard_monitoring.Phase.TheVariants.{WaitForSwitch2, WaitForSwitch1, GuardClosed}
use Rattle.ps_guards.specs.declared.guard_monitoring.Phase.TheVariants.{WaitForReset, Enabled, ResetError}
use Rattle.ps_guards.specs.declared.guard_monitoring.Phase.TheVariants.{DiscrepancyError1, DiscrepancyError2}
use Rattle.ps_guards.specs.declared.guard_monitoring.GuardMonitoringState.{GuardMonitoringState}
use Rattle.ps_model.specs.Kept.{Kept}

-- The DiagCode of each state.
abbrev pub code_of : Phase → ℕ
code_of Idle = 0
code_of Init = 0x8001
code_of OpenGuardRequest = 0x8002
code_of GuardOpened = 0x8012
code_of WaitForSwitch2 = 0x8004
code_of WaitForSwitch1 = 0x8014
code_of GuardClosed = 0x8005
code_of WaitForReset = 0x8003
code_of Enabled = 0x8000
code_of ResetError = 0xC001
code_of DiscrepancyError1 = 0xC011
code_of DiscrepancyError2 = 0xC012

-- What a state keeps.
abbrev pub kept_of : GuardMonitoringState → Kept
kept_of s = record { code = code_of s.phase; last_reset = s.last_reset; last_auxiliary = false; mode = 0; timer = s.since }
