-- The transition table of SF_GuardLocking. Profile of this project, after PLCopen TC5.
use Rattle.std.specs.Prelude.{List, [], ◌∷◌}
use Rattle.ps_model.specs.Table.{Guard, Row, ◌⇒◌, pin, edge, static, otherwise, ◌and◌, ◌or◌, no, in_state}

-- S_GuardMonitoring
abbrev pub m : Guard
m = pin 1

-- S_SafetyActive
abbrev pub s : Guard
s = pin 2

-- S_GuardLock
abbrev pub l : Guard
l = pin 3

-- UnlockRequest
abbrev pub u : Guard
u = pin 4

-- S_StartReset
abbrev pub start : Guard
start = pin 5

-- S_AutoReset
abbrev pub auto : Guard
auto = pin 6

-- Reset
abbrev pub reset : Guard
reset = pin 7

-- the states of SF_GuardLocking
abbrev pub table : List Row
table =
    in_state 0x8001 (m and l and start ⇒ 0x8000 ∷ m and l ⇒ 0x8003 ∷ otherwise ⇒ 0x8014 ∷ [])
    ∷ in_state 0x8000 (no m or no l ⇒ 0xC004 ∷ u and s ⇒ 0x8013 ∷ [])
    ∷ in_state 0x8003 (no m or no l ⇒ 0xC004 ∷ u and s ⇒ 0x8013 ∷ edge ⇒ 0x8000 ∷ static ⇒ 0xC002 ∷ [])
    ∷ in_state 0x8013 (no s ⇒ 0x8014 ∷ no m ⇒ 0x8012 ∷ no u ⇒ 0x8011 ∷ [])
    ∷ in_state 0x8012 (no s ⇒ 0x8014 ∷ m ⇒ 0x8013 ∷ [])
    ∷ in_state 0x8011 (no m ⇒ 0x8014 ∷ u and s ⇒ 0x8013 ∷ l and (auto or edge) ⇒ 0x8000 ∷ static ⇒ 0xC003 ∷ [])
    ∷ in_state 0x8014 (m and l ⇒ 0x8003 ∷ s and edge and m ⇒ 0x8013 ∷ s and edge ⇒ 0x8012 ∷ static ⇒ 0xC001 ∷ [])
    ∷ in_state 0xC001 (no reset ⇒ 0x8014 ∷ [])
    ∷ in_state 0xC002 (no reset ⇒ 0x8003 ∷ [])
    ∷ in_state 0xC003 (no reset ⇒ 0x8011 ∷ [])
    ∷ in_state 0xC004 (edge ⇒ 0x8014 ∷ [])
    ∷ []
