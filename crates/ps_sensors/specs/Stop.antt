-- The states of SF_EmergencyStop and SF_ESPE.
use Rattle.std.specs.Prelude.{ℕ, false}
use Rattle.ps_sensors.specs.declared.stop.Phase.{Phase}
use Rattle.ps_sensors.specs.declared.stop.Phase.TheVariants.{Idle, Init, WaitForIn1, WaitForReset1, Enabled, WaitForIn2}
use Rattle.ps_sensors.specs.declared.stop.Phase.TheVariants.{WaitForReset2, ResetError1, ResetError2}
use Rattle.ps_sensors.specs.declared.stop.StopState.{StopState}
use Rattle.ps_model.specs.Kept.{Kept}

-- The DiagCode of each state.
abbrev pub code_of : Phase → ℕ
code_of Idle = 0
code_of Init = 0x8001
code_of WaitForIn1 = 0x8002
code_of WaitForReset1 = 0x8003
code_of Enabled = 0x8000
code_of WaitForIn2 = 0x8004
code_of WaitForReset2 = 0x8005
code_of ResetError1 = 0xC001
code_of ResetError2 = 0xC002

-- What a state keeps.
abbrev pub kept_of : StopState → Kept
kept_of s = record { code = code_of s.phase; last_reset = s.last_reset; last_auxiliary = false; mode = 0; timer = s.since }
