-- The function blocks: their pins, and one step of each. Profile of this project, after PLCopen TC5.
use Rattle.std.specs.Prelude.{ℕ, Bool, true, false, List, [], ◌∷◌, ◌++◌, ◌+◌, ◌/◌, ◌&&◌, ◌||◌, ◌==◌, not, if◌then◌else◌}
use Rattle.std.specs.Prelude.{length, map, codes, Option, Some, None, nat_le, count_by, slice_index_or}
use Rattle.std.specs.List.{list_any, range_with_len}
use Rattle.ps_model.specs.declared.kind.Kind.{Kind}
use Rattle.ps_model.specs.declared.kind.Kind.TheVariants.{Equivalent, Antivalent, EmergencyStop, Espe, ModeSelector}
use Rattle.ps_model.specs.declared.kind.Kind.TheVariants.{TwoHandTwo, TwoHandThree, GuardMonitoring, GuardLocking}
use Rattle.ps_model.specs.declared.kind.Kind.TheVariants.{EnableSwitch, SafetyRequest, OutControl, Edm}
use Rattle.ps_model.specs.declared.kind.Ty.{Ty}
use Rattle.ps_model.specs.declared.kind.Ty.TheVariants.{Safe, Bool as Plain, Time}
use Rattle.ps_model.specs.EquivalenceTable as equivalent_table
use Rattle.ps_model.specs.StopTable as stop
use Rattle.ps_model.specs.ModesTable as modes
use Rattle.ps_model.specs.EdmTable as monitoring
use Rattle.ps_model.specs.TwoHandTable as two_hand
use Rattle.ps_model.specs.GuardMonitoringTable as guard_monitoring_table
use Rattle.ps_model.specs.GuardLockingTable as guard_locking_table
use Rattle.ps_model.specs.EnableSwitchTable as enable_switch_table
use Rattle.ps_model.specs.SafetyRequestTable as safety_request_table
use Rattle.ps_model.specs.OutControlTable as out_control_table
use Rattle.ps_model.specs.Table.{Conditions, Row, pin, no, decided, row_at}

-- An input pin: its name, its type, and the value of a Boolean pin that a call does not name.
pub record Pin : Type 0 where
  pub name : List ℕ
  pub ty : Ty
  pub free : Bool

-- a SAFEBOOL pin, FALSE where it is free
abbrev pub safe_pin : List ℕ → Pin
safe_pin n = record { name = n; ty = Safe; free = false }

-- a BOOL pin, FALSE where it is free
abbrev pub plain_pin : List ℕ → Pin
plain_pin n = record { name = n; ty = Plain; free = false }

-- a TIME pin
abbrev pub time_pin : List ℕ → Pin
time_pin n = record { name = n; ty = Time; free = false }

-- A safe output: its name and the states in which it is TRUE.
pub record Output : Type 0 where
  pub name : List ℕ
  pub states : List ℕ

-- A kind: its number and name, its input pins in order and its safe outputs, which of its pins are Reset and the
-- auxiliary input, the part of its limit in ms that no TIME pin gives, its first state, and its transition table.
pub record Block : Type 0 where
  pub number : ℕ
  pub name : List ℕ
  pub inputs : List Pin
  pub outputs : List Output
  pub reset : Option ℕ
  pub auxiliary : Option ℕ
  pub fixed_limit : ℕ
  pub first : ℕ
  pub rows : List Row

-- ---- The kinds and their pins: those of PLCopen TC5, in the profile of this project.

-- the states of SF_ModeSelector in which a mode is latched
abbrev pub mode_states : List ℕ
mode_states = 0x8000 ∷ 0x8004 ∷ []

-- two contacts that are to close together within the discrepancy time
abbrev pub equivalent : Block
equivalent = record {
  number = 1;
  name = codes "SF_Equivalent";
  inputs = plain_pin (codes "Activate") ∷ safe_pin (codes "S_ChannelA") ∷ safe_pin (codes "S_ChannelB")
      ∷ time_pin (codes "DiscrepancyTime") ∷ [];
  outputs = record { name = codes "S_EquivalentOut"; states = 0x8000 ∷ [] } ∷ [];
  reset = None;
  auxiliary = None;
  fixed_limit = 0;
  first = 0x8001;
  rows = equivalent_table.table (pin 1) (pin 2);
}

-- a normally closed and a normally open contact that are to change together within the discrepancy time
abbrev pub antivalent : Block
antivalent = record {
  number = 2;
  name = codes "SF_Antivalent";
  inputs = plain_pin (codes "Activate") ∷ safe_pin (codes "S_ChannelNC")
      ∷ record { name = codes "S_ChannelNO"; ty = Safe; free = true } ∷ time_pin (codes "DiscrepancyTime") ∷ [];
  outputs = record { name = codes "S_AntivalentOut"; states = 0x8000 ∷ [] } ∷ [];
  reset = None;
  auxiliary = None;
  fixed_limit = 0;
  first = 0x8001;
  rows = equivalent_table.table (pin 1) (no (pin 2));
}

-- an emergency stop button
abbrev pub emergency_stop : Block
emergency_stop = record {
  number = 3;
  name = codes "SF_EmergencyStop";
  inputs = plain_pin (codes "Activate") ∷ safe_pin (codes "S_EStopIn") ∷ safe_pin (codes "S_StartReset")
      ∷ safe_pin (codes "S_AutoReset") ∷ plain_pin (codes "Reset") ∷ [];
  outputs = record { name = codes "S_EStopOut"; states = 0x8000 ∷ [] } ∷ [];
  reset = Some 4;
  auxiliary = None;
  fixed_limit = 0;
  first = 0x8001;
  rows = stop.table;
}

-- a light curtain or another sensor of that sort (ESPE)
abbrev pub espe : Block
espe = record {
  number = 4;
  name = codes "SF_ESPE";
  inputs = plain_pin (codes "Activate") ∷ safe_pin (codes "S_ESPE_In") ∷ safe_pin (codes "S_StartReset")
      ∷ safe_pin (codes "S_AutoReset") ∷ plain_pin (codes "Reset") ∷ [];
  outputs = record { name = codes "S_ESPE_Out"; states = 0x8000 ∷ [] } ∷ [];
  reset = Some 4;
  auxiliary = None;
  fixed_limit = 0;
  first = 0x8001;
  rows = stop.table;
}

-- a switch with up to eight modes, of which one is to be chosen and latched
abbrev pub mode_selector : Block
mode_selector = record {
  number = 5;
  name = codes "SF_ModeSelector";
  inputs = plain_pin (codes "Activate") ∷ safe_pin (codes "S_Mode0") ∷ safe_pin (codes "S_Mode1")
      ∷ safe_pin (codes "S_Mode2") ∷ safe_pin (codes "S_Mode3")
      ∷ safe_pin (codes "S_Mode4") ∷ safe_pin (codes "S_Mode5") ∷ safe_pin (codes "S_Mode6") ∷ safe_pin (codes "S_Mode7") ∷ safe_pin (codes "S_Unlock")
      ∷ safe_pin (codes "S_SetMode") ∷ plain_pin (codes "AutoSetMode") ∷ plain_pin (codes "Reset") ∷ time_pin (codes "ModeMonitorTime") ∷ [];
  outputs = record { name = codes "S_Mode0Sel"; states = mode_states } ∷ record { name = codes "S_Mode1Sel"; states = mode_states }
      ∷ record { name = codes "S_Mode2Sel"; states = mode_states } ∷ record { name = codes "S_Mode3Sel"; states = mode_states }
      ∷ record { name = codes "S_Mode4Sel"; states = mode_states } ∷ record { name = codes "S_Mode5Sel"; states = mode_states }
      ∷ record { name = codes "S_Mode6Sel"; states = mode_states } ∷ record { name = codes "S_Mode7Sel"; states = mode_states }
      ∷ record { name = codes "S_AnyModeSel"; states = mode_states } ∷ [];
  reset = Some 12;
  auxiliary = Some 10;
  fixed_limit = 0;
  first = 0x8005;
  rows = modes.table;
}

-- two buttons of a two-hand control of type II (EN 574)
abbrev pub two_hand_two : Block
two_hand_two = record {
  number = 6;
  name = codes "SF_TwoHandControlTypeII";
  inputs = plain_pin (codes "Activate") ∷ safe_pin (codes "S_Button1") ∷ safe_pin (codes "S_Button2") ∷ [];
  outputs = record { name = codes "S_TwoHandOut"; states = 0x8000 ∷ [] } ∷ [];
  reset = None;
  auxiliary = None;
  fixed_limit = 0;
  first = 0x8001;
  rows = two_hand.table_two;
}

-- two buttons of a two-hand control of type III (EN 574), which are to be pressed within 500 ms
abbrev pub two_hand_three : Block
two_hand_three = record {
  number = 7;
  name = codes "SF_TwoHandControlTypeIII";
  inputs = plain_pin (codes "Activate") ∷ safe_pin (codes "S_Button1") ∷ safe_pin (codes "S_Button2") ∷ [];
  outputs = record { name = codes "S_TwoHandOut"; states = 0x8000 ∷ [] } ∷ [];
  reset = None;
  auxiliary = None;
  fixed_limit = 500;
  first = 0x8001;
  rows = two_hand.table_three;
}

-- a guard with two switches that are to close within the discrepancy time
abbrev pub guard_monitoring : Block
guard_monitoring = record {
  number = 8;
  name = codes "SF_GuardMonitoring";
  inputs = plain_pin (codes "Activate") ∷ safe_pin (codes "S_GuardSwitch1") ∷ safe_pin (codes "S_GuardSwitch2")
      ∷ safe_pin (codes "S_StartReset") ∷ safe_pin (codes "S_AutoReset") ∷ plain_pin (codes "Reset")
      ∷ time_pin (codes "DiscrepancyTime") ∷ [];
  outputs = record { name = codes "S_GuardMonitoring"; states = 0x8000 ∷ [] } ∷ [];
  reset = Some 5;
  auxiliary = None;
  fixed_limit = 0;
  first = 0x8001;
  rows = guard_monitoring_table.table;
}

-- a guard with a lock, which is opened on request in a safe state
abbrev pub guard_locking : Block
guard_locking = record {
  number = 9;
  name = codes "SF_GuardLocking";
  inputs = plain_pin (codes "Activate") ∷ safe_pin (codes "S_GuardMonitoring") ∷ safe_pin (codes "S_SafetyActive")
      ∷ safe_pin (codes "S_GuardLock") ∷ plain_pin (codes "UnlockRequest") ∷ safe_pin (codes "S_StartReset")
      ∷ safe_pin (codes "S_AutoReset") ∷ plain_pin (codes "Reset") ∷ [];
  outputs = record { name = codes "S_GuardLocked"; states = 0x8000 ∷ [] } ∷ record { name = codes "S_UnlockGuard"; states = 0x8012 ∷ 0x8013 ∷ [] } ∷ [];
  reset = Some 7;
  auxiliary = None;
  fixed_limit = 0;
  first = 0x8001;
  rows = guard_locking_table.table;
}

-- an enable switch with three positions
abbrev pub enable_switch : Block
enable_switch = record {
  number = 10;
  name = codes "SF_EnableSwitch";
  inputs = plain_pin (codes "Activate") ∷ safe_pin (codes "S_SafetyActive") ∷ safe_pin (codes "S_EnableSwitchCh1")
      ∷ safe_pin (codes "S_EnableSwitchCh2") ∷ safe_pin (codes "S_AutoReset") ∷ plain_pin (codes "Reset") ∷ [];
  outputs = record { name = codes "S_EnableSwitchOut"; states = 0x8000 ∷ [] } ∷ [];
  reset = Some 5;
  auxiliary = None;
  fixed_limit = 0;
  first = 0x8004;
  rows = enable_switch_table.table;
}

-- a request to a drive to become safe, which it is to acknowledge within the monitoring time
abbrev pub safety_request : Block
safety_request = record {
  number = 11;
  name = codes "SF_SafetyRequest";
  inputs = plain_pin (codes "Activate") ∷ safe_pin (codes "S_OpMode") ∷ safe_pin (codes "S_Acknowledge")
      ∷ plain_pin (codes "Reset") ∷ time_pin (codes "MonitoringTime") ∷ [];
  outputs = record { name = codes "S_SafetyActive"; states = 0x8000 ∷ [] } ∷ record { name = codes "S_SafetyRequest"; states = 0x8002 ∷ [] } ∷ [];
  reset = Some 3;
  auxiliary = None;
  fixed_limit = 0;
  first = 0x8001;
  rows = safety_request_table.table;
}

-- a safe output that the process switches while safety allows it
abbrev pub out_control : Block
out_control = record {
  number = 12;
  name = codes "SF_OutControl";
  inputs = plain_pin (codes "Activate") ∷ safe_pin (codes "S_SafeControl") ∷ plain_pin (codes "ProcessControl")
      ∷ plain_pin (codes "StaticControl") ∷ safe_pin (codes "S_StartReset") ∷ safe_pin (codes "S_AutoReset")
      ∷ plain_pin (codes "Reset") ∷ [];
  outputs = record { name = codes "S_OutControl"; states = 0x8000 ∷ [] } ∷ [];
  reset = Some 6;
  auxiliary = Some 2;
  fixed_limit = 0;
  first = 0x8001;
  rows = out_control_table.table;
}

-- two actuators whose feedback is to follow the output within the monitoring time
abbrev pub edm : Block
edm = record {
  number = 13;
  name = codes "SF_EDM";
  inputs = plain_pin (codes "Activate") ∷ safe_pin (codes "S_OutControl") ∷ safe_pin (codes "S_EDM1") ∷ safe_pin (codes "S_EDM2")
      ∷ safe_pin (codes "S_StartReset") ∷ plain_pin (codes "Reset") ∷ time_pin (codes "MonitoringTime") ∷ [];
  outputs = record { name = codes "S_EDM_Out"; states = 0x8000 ∷ [] } ∷ [];
  reset = Some 5;
  auxiliary = None;
  fixed_limit = 0;
  first = 0x8001;
  rows = monitoring.table;
}

-- The block of each kind.
unfoldable pub block : Kind → Block
block Equivalent = equivalent
block Antivalent = antivalent
block EmergencyStop = emergency_stop
block Espe = espe
block ModeSelector = mode_selector
block TwoHandTwo = two_hand_two
block TwoHandThree = two_hand_three
block GuardMonitoring = guard_monitoring
block GuardLocking = guard_locking
block EnableSwitch = enable_switch
block SafetyRequest = safety_request
block OutControl = out_control
block Edm = edm

-- ---- One step of a block.

-- The next state: Activate FALSE leads to Idle before all else, Activate leads from Idle to the first state, and else
-- the table decides.
unfoldable pub next : Kind → ℕ → Conditions → ℕ
next kind q c =
    if not (c.pin 0) then 0 else
    if q == 0 then (block kind).first else
    decided q (row_at (block kind).rows q).rules c

-- A block state: its DiagCode, its age in ms, the Reset and the auxiliary input of its last step, and the latched mode.
pub record Block_state : Type 0 where
  pub code : ℕ
  pub age : ℕ
  pub last_reset : Bool
  pub last_auxiliary : Bool
  pub mode : ℕ

-- The state before the first scan.
abbrev pub idle : Block_state
idle = record { code = 0; age = 0; last_reset = false; last_auxiliary = false; mode = 0 }

-- The value of a pin that a kind may lack: FALSE where it does.
abbrev pub at_pin : Option ℕ → (ℕ → Bool) → Bool
at_pin None pins = false
at_pin (Some j) pins = pins j

-- how many modes are TRUE
abbrev pub modes_on : (ℕ → Bool) → ℕ
modes_on pins = count_by (λ m. pins (m + 1)) (range_with_len 0 8)

-- the TRUE modes are exactly the latched one
abbrev pub exactly_on : (ℕ → Bool) → ℕ → Bool
exactly_on pins mode = modes_on pins == 1 && pins (mode + 1)

-- The conditions of a step dt ms after the last one.
abbrev pub conditions : Kind → ℕ → (ℕ → Bool) → ℕ → Block_state → Conditions
conditions kind limit pins dt s = record {
  pin = pins;
  edge = at_pin (block kind).reset pins && not s.last_reset;
  static = at_pin (block kind).reset pins && s.last_reset;
  rise = at_pin (block kind).auxiliary pins && not s.last_auxiliary;
  elapsed = nat_le limit (s.age + dt);
  modes = modes_on pins;
  exact = exactly_on pins s.mode;
}

-- the lowest TRUE mode
abbrev pub lowest_on : List ℕ → (ℕ → Bool) → ℕ
lowest_on [] pins = 0
lowest_on (m ∷ ms) pins = if pins (m + 1) then m else lowest_on ms pins

-- The latched mode after a step from state q to state q': taken where 8005 is left for 8000, kept in 8000 and 8004, and
-- 0 elsewhere.
unfoldable pub latched : Kind → (ℕ → Bool) → ℕ → ℕ → ℕ → ℕ
latched ModeSelector pins q q' mode =
    if list_any (λ x. x == q') mode_states then (if q == 0x8005 then lowest_on (range_with_len 0 8) pins else mode) else 0
latched _ pins q q' mode = 0

-- The block state after a step with these pins, dt ms after the last one. The age is 0 where the state is entered anew,
-- and where it stays and its restart condition holds; otherwise it grows by dt.
unfoldable pub moved : Kind → ℕ → (ℕ → Bool) → ℕ → Block_state → Block_state
moved kind limit pins dt s =
    let c = conditions kind limit pins dt s in
    let q = next kind s.code c in
    record {
      code = q;
      age = if q == s.code && not ((row_at (block kind).rows q).restart c) then s.age + dt else 0;
      last_reset = at_pin (block kind).reset pins;
      last_auxiliary = at_pin (block kind).auxiliary pins;
      mode = latched kind pins s.code q s.mode;
    }

-- Safe output j of SF_ModeSelector, S_Mode j Sel, shows its own mode alone, and the last one, S_AnyModeSel, every mode.
abbrev pub shown_mode : Kind → ℕ → ℕ → Bool
shown_mode ModeSelector j mode = j == mode || j == 8
shown_mode _ j mode = true

-- what stands past the safe outputs of a kind
abbrev pub no_output : Output
no_output = record { name = []; states = [] }

-- Safe output j is TRUE in the states that the kind names for it.
abbrev pub safe_output : Kind → ℕ → ℕ → ℕ → Bool
safe_output kind q mode j =
    list_any (λ x. x == q) (slice_index_or (block kind).outputs j no_output).states && shown_mode kind j mode

-- Ready is TRUE in every state but Idle.
abbrev pub ready_in : ℕ → Bool
ready_in q = not (q == 0)

-- Error is TRUE exactly in the states whose code is Cxxx.
abbrev pub error_in : ℕ → Bool
error_in q = q / 0x1000 == 0xC

-- How many outputs a kind has, Ready and Error among them.
unfoldable pub output_count : Kind → ℕ
output_count kind = length (block kind).outputs + 2

-- The outputs in state q with this latched mode: the safe outputs in order, then Ready and Error.
unfoldable pub outs : Kind → ℕ → ℕ → List Bool
outs kind q mode = map (safe_output kind q mode) (range_with_len 0 (length (block kind).outputs)) ++ (ready_in q ∷ error_in q ∷ [])
