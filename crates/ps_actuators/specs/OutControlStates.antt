-- The states of SF_OutControl.
use Rattle.std.specs.Prelude.{ℕ}
use Rattle.ps_actuators.specs.declared.out_control.Phase.{Phase}
use Rattle.ps_actuators.specs.declared.out_control.Phase.TheVariants.{Idle, Init, WaitForSafeControl, WaitForReset}
use Rattle.ps_actuators.specs.declared.out_control.Phase.TheVariants.{OutputDisabled, Enabled, ControlError}
use Rattle.ps_actuators.specs.declared.out_control.Phase.TheVariants.{ResetError1, ResetError2}
use Rattle.ps_actuators.specs.declared.out_control.OutControlState.{OutControlState}
use Rattle.ps_model.specs.Kept.{Kept}

-- The DiagCode of each state.
abbrev pub code_of : Phase → ℕ
code_of Idle = 0
code_of Init = 0x8001
code_of WaitForSafeControl = 0x8002
code_of WaitForReset = 0x8003
code_of OutputDisabled = 0x8010
code_of Enabled = 0x8000
code_of ControlError = 0xC010
code_of ResetError1 = 0xC001
code_of ResetError2 = 0xC002

-- What a state keeps.
abbrev pub kept_of : OutControlState → Kept
kept_of s = record { code = code_of s.phase; last_reset = s.last_reset; last_auxiliary = s.last_process; mode = 0; timer = s.since }
