-- The states of SF_EDM.
use Rattle.std.specs.Prelude.{ℕ, false}
use Rattle.ps_actuators.specs.declared.monitoring.Phase.{Phase}
use Rattle.ps_actuators.specs.declared.monitoring.Phase.TheVariants.{Idle, Init, OutputDisabled, Enabled, ResetError}
use Rattle.ps_actuators.specs.declared.monitoring.Phase.TheVariants.{EdmError11, ResetError11, EdmError12, ResetError12}
use Rattle.ps_actuators.specs.declared.monitoring.Phase.TheVariants.{EdmError13, ResetError13, EdmError21, ResetError21}
use Rattle.ps_actuators.specs.declared.monitoring.Phase.TheVariants.{EdmError22, ResetError22, EdmError23, ResetError23}
use Rattle.ps_actuators.specs.declared.monitoring.Phase.TheVariants.{EdmError31, ResetError31, EdmError32, ResetError32}
use Rattle.ps_actuators.specs.declared.monitoring.Phase.TheVariants.{EdmError33, ResetError33}
use Rattle.ps_actuators.specs.declared.monitoring.EdmState.{EdmState}
use Rattle.ps_model.specs.Kept.{Kept}

-- The DiagCode of each state.
abbrev pub code_of : Phase → ℕ
code_of Idle = 0
code_of Init = 0x8001
code_of OutputDisabled = 0x8010
code_of Enabled = 0x8000
code_of ResetError = 0xC001
code_of EdmError11 = 0xC010
code_of ResetError11 = 0xC011
code_of EdmError12 = 0xC020
code_of ResetError12 = 0xC021
code_of EdmError13 = 0xC030
code_of ResetError13 = 0xC031
code_of EdmError21 = 0xC040
code_of ResetError21 = 0xC041
code_of EdmError22 = 0xC050
code_of ResetError22 = 0xC051
code_of EdmError23 = 0xC060
code_of ResetError23 = 0xC061
code_of EdmError31 = 0xC070
code_of ResetError31 = 0xC071
code_of EdmError32 = 0xC080
code_of ResetError32 = 0xC081
code_of EdmError33 = 0xC090
code_of ResetError33 = 0xC091

-- What a state keeps.
abbrev pub kept_of : EdmState → Kept
kept_of s = record { code = code_of s.phase; last_reset = s.last_reset; last_auxiliary = false; mode = 0; timer = s.since }
