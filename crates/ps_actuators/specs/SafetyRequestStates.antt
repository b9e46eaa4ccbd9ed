-- The states of SF_SafetyRequest.
use Rattle.std.specs.Prelude.{ℕ, false}
use Rattle.ps_actuators.specs.declared.safety_request.Phase.{Phase}
use Rattle.ps_actuators.specs.declared.safety_request.Phase.TheVariants.{Idle, Init, WaitForReset, Operation}
use Rattle.ps_actuators.specs.declared.safety_request.Phase.TheVariants.{WaitForAcknowledge, Safe, AcknowledgeLost}
use Rattle.ps_actuators.specs.declared.safety_request.Phase.TheVariants.{MonitoringError, ResetError2, ResetError3}
use Rattle.ps_actuators.specs.declared.safety_request.Phase.TheVariants.{WaitForOperation}
use Rattle.ps_actuators.specs.declared.safety_request.SafetyRequestState.{SafetyRequestState}
use Rattle.ps_model.specs.Kept.{Kept}

-- The DiagCode of each state.
abbrev pub code_of : Phase → ℕ
code_of Idle = 0
code_of Init = 0x8001
code_of WaitForReset = 0x8012
code_of Operation = 0x8002
code_of WaitForAcknowledge = 0x8003
code_of Safe = 0x8000
code_of AcknowledgeLost = 0xC002
code_of MonitoringError = 0xC003
code_of ResetError2 = 0xC004
code_of ResetError3 = 0xC005
code_of WaitForOperation = 0x8005

-- What a state keeps.
abbrev pub kept_of : SafetyRequestState → Kept
kept_of s = record { code = code_of s.phase; last_reset = s.last_reset; last_auxiliary = false; mode = 0; timer = s.since }
