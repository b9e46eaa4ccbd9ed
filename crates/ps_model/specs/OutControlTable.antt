-- The transition table of SF_OutControl. Profile of this project, after PLCopen TC5.
use Rattle.std.specs.Prelude.{List, [], ◌∷◌}
use Rattle.ps_model.specs.Table.{Guard, Row, ◌⇒◌, pin, edge, static, rise, ◌and◌, ◌or◌, no, in_state}

-- S_SafeControl
abbrev pub s : Guard
s = pin 1

-- ProcessControl
abbrev pub p : Guard
p = pin 2

-- StaticControl
abbrev pub static_control : Guard
static_control = pin 3

-- S_StartReset
abbrev pub start : Guard
start = pin 4

-- S_AutoReset
abbrev pub auto : Guard
auto = pin 5

-- Reset
abbrev pub reset : Guard
reset = pin 6

-- the states of SF_OutControl
abbrev pub table : List Row
table =
    in_state 0x8001 (no s ⇒ 0x8002 ∷ start ⇒ 0x8010 ∷ edge ⇒ 0x8010 ∷ static ⇒ 0xC001 ∷ [])
    ∷ in_state 0x8002 (s and auto ⇒ 0x8010 ∷ s ⇒ 0x8003 ∷ [])
    ∷ in_state 0x8003 (no s ⇒ 0x8002 ∷ edge ⇒ 0x8010 ∷ static ⇒ 0xC002 ∷ [])
    ∷ in_state 0x8010 (no s ⇒ 0x8002 ∷ p and (static_control or rise) ⇒ 0x8000 ∷ p ⇒ 0xC010 ∷ [])
    ∷ in_state 0x8000 (no s ⇒ 0x8002 ∷ no p ⇒ 0x8010 ∷ [])
    ∷ in_state 0xC010 (no s ⇒ 0x8002 ∷ no p ⇒ 0x8010 ∷ [])
    ∷ in_state 0xC001 (no reset ⇒ 0x8001 ∷ [])
    ∷ in_state 0xC002 (no reset ⇒ 0x8003 ∷ [])
    ∷ []
