-- The states of SF_Equivalent and SF_Antivalent.
use Rattle.std.specs.Prelude.{ℕ, false}
use Rattle.ps_sensors.specs.declared.contacts.Phase.{Phase}
use Rattle.ps_sensors.specs.declared.contacts.Phase.TheVariants.{Idle, Init, WaitForB, WaitForA, Enabled}
use Rattle.ps_sensors.specs.declared.contacts.Phase.TheVariants.{FromActiveWait, Error1, Error2, Error3}
use Rattle.ps_sensors.specs.declared.contacts.ContactsState.{ContactsState}
use Rattle.ps_model.specs.Kept.{Kept}

-- The DiagCode of each state.
abbrev pub code_of : Phase → ℕ
code_of Idle = 0
code_of Init = 0x8001
code_of WaitForB = 0x8004
code_of WaitForA = 0x8014
code_of Enabled = 0x8000
code_of FromActiveWait = 0x8005
code_of Error1 = 0xC001
code_of Error2 = 0xC002
code_of Error3 = 0xC003

-- What a state keeps.
abbrev pub kept_of : ContactsState → Kept
kept_of s = record { code = code_of s.phase; last_reset = false; last_auxiliary = false; mode = 0; timer = s.since }
