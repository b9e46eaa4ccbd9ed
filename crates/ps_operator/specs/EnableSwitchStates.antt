-- The states of SF_EnableSwitch.
use Rattle.std.specs.Prelude.{ℕ, false}
use Rattle.ps_operator.specs.declared.enable_switch.Phase.{Phase}
use Rattle.ps_operator.specs.declared.enable_switch.Phase.TheVariants.{Idle, BasicOperation, SafeOperation, Position1}
use Rattle.ps_operator.specs.declared.enable_switch.Phase.TheVariants.{Enabled, Position3, OperationError1}
use Rattle.ps_operator.specs.declared.enable_switch.Phase.TheVariants.{OperationError2, OperationError3}
use Rattle.ps_operator.specs.declared.enable_switch.Phase.TheVariants.{OperationError4, ResetError1, ResetError2}
use Rattle.ps_operator.specs.declared.enable_switch.EnableSwitchState.{EnableSwitchState}
use Rattle.ps_model.specs.Kept.{Kept}

-- The DiagCode of each state.
abbrev pub code_of : Phase → ℕ
code_of Idle = 0
code_of BasicOperation = 0x8004
code_of SafeOperation = 0x8005
code_of Position1 = 0x8006
code_of Enabled = 0x8000
code_of Position3 = 0x8007
code_of OperationError1 = 0xC010
code_of OperationError2 = 0xC020
code_of OperationError3 = 0xC030
code_of OperationError4 = 0xC040
code_of ResetError1 = 0xC001
code_of ResetError2 = 0xC002

-- What a state keeps.
abbrev pub kept_of : EnableSwitchState → Kept
kept_of s = record { code = code_of s.phase; last_reset = s.last_reset; last_auxiliary = false; mode = 0; timer = s.since }
