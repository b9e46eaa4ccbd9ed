-- The states of SF_GuardLocking.
use Rattle.std.specs.Prelude.{ℕ, false}
use Rattle.ps_guards.specs.declared.guard_locking.Phase.{Phase}
use Rattle.ps_guards.specs.declared.guard_locking.Phase.TheVariants.{Idle, Init, Locked, WaitForReset, ClosedUnlocked}
use Rattle.ps_guards.specs.declared.guard_locking.Phase.TheVariants.{OpenUnlocked, WaitForOperator, SafetyReturn}
use Rattle.ps_guards.specs.declared.guard_locking.Phase.TheVariants.{ResetError1, ResetError2, ResetError3, SafetyLost}
use Rattle.ps_guards.specs.declared.guard_locking.GuardLockingState.{GuardLockingState}
use Rattle.ps_model.specs.Kept.{Kept}

-- The DiagCode of each state.
abbrev pub code_of : Phase → ℕ
code_of Idle = 0
code_of Init = 0x8001
code_of Locked = 0x8000
code_of WaitForReset = 0x8003
code_of ClosedUnlocked = 0x8013
code_of OpenUnlocked = 0x8012
code_of WaitForOperator = 0x8011
code_of SafetyReturn = 0x8014
code_of ResetError1 = 0xC001
code_of ResetError2 = 0xC002
code_of ResetError3 = 0xC003
code_of SafetyLost = 0xC004

-- What a state keeps.
abbrev pub kept_of : GuardLockingState → Kept
kept_of s = record { code = code_of s.phase; last_reset = s.last_reset; last_auxiliary = false; mode = 0; timer = s.since }
