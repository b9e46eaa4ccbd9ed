-- The transition table of SF_EnableSwitch. Profile of this project, after PLCopen TC5.
use Rattle.std.specs.Prelude.{List, [], ◌∷◌}
use Rattle.ps_model.specs.Table.{Guard, Row, ◌⇒◌, pin, edge, static, otherwise, ◌and◌, ◌or◌, no, in_state}

-- S_SafetyActive
abbrev pub active : Guard
active = pin 1

-- S_EnableSwitchCh1
abbrev pub ch1 : Guard
ch1 = pin 2

-- S_EnableSwitchCh2
abbrev pub ch2 : Guard
ch2 = pin 3

-- S_AutoReset
abbrev pub auto : Guard
auto = pin 4

-- Reset
abbrev pub reset : Guard
reset = pin 5

-- position 1: it is not pressed
abbrev pub p1 : Guard
p1 = no ch1 and ch2

-- position 2, the middle one, in which the switch enables
abbrev pub p2 : Guard
p2 = ch1 and ch2

-- position 3: it is pressed through
abbrev pub p3 : Guard
p3 = no ch2

-- the states of SF_EnableSwitch
abbrev pub table : List Row
table =
    in_state 0x8004 (active ⇒ 0x8005 ∷ [])
    ∷ in_state 0x8005 (no active ⇒ 0x8004 ∷ p1 ⇒ 0x8006 ∷ otherwise ⇒ 0xC010 ∷ [])
    ∷ in_state 0x8006 (no active ⇒ 0x8004 ∷ p2 ⇒ 0x8000 ∷ p3 ⇒ 0x8007 ∷ [])
    ∷ in_state 0x8000 (no active ⇒ 0x8004 ∷ p1 ⇒ 0x8006 ∷ p3 ⇒ 0x8007 ∷ [])
    ∷ in_state 0x8007 (no active ⇒ 0x8004 ∷ p1 ⇒ 0x8006 ∷ p2 ⇒ 0xC030 ∷ [])
    ∷ in_state 0xC010 (no active ⇒ 0x8004 ∷ p1 ⇒ 0xC020 ∷ [])
    ∷ in_state 0xC020 (no active ⇒ 0x8004 ∷ no p1 ⇒ 0xC010 ∷ static ⇒ 0xC001 ∷ auto or edge ⇒ 0x8006 ∷ [])
    ∷ in_state 0xC030 (no active ⇒ 0x8004 ∷ no p2 ⇒ 0xC040 ∷ [])
    ∷ in_state 0xC040 (no active ⇒ 0x8004 ∷ p2 ⇒ 0xC030 ∷ static ⇒ 0xC002 ∷ (auto or edge) and p1 ⇒ 0x8006 ∷ auto or edge ⇒ 0x8007 ∷ [])
    ∷ in_state 0xC001 (no active ⇒ 0x8004 ∷ no reset ⇒ 0xC020 ∷ [])
    ∷ in_state 0xC002 (no active ⇒ 0x8004 ∷ no reset ⇒ 0xC040 ∷ [])
    ∷ []
