-- The transition table of SF_EmergencyStop and SF_ESPE. Profile of this project, after PLCopen TC5.
use Rattle.std.specs.Prelude.{List, [], ◌∷◌}
use Rattle.ps_model.specs.Table.{Guard, Row, ◌⇒◌, pin, edge, no, in_state}

-- the sensor input: S_EStopIn of SF_EmergencyStop, S_ESPE_In of SF_ESPE
abbrev pub in_ : Guard
in_ = pin 1

-- S_StartReset
abbrev pub start : Guard
start = pin 2

-- S_AutoReset
abbrev pub auto : Guard
auto = pin 3

-- Reset
abbrev pub reset : Guard
reset = pin 4

-- the states of both kinds
abbrev pub table : List Row
table =
    in_state 0x8001 (no start ⇒ 0x8002 ∷ in_ ⇒ 0x8000 ∷ [])
    ∷ in_state 0x8002 (reset ⇒ 0xC001 ∷ in_ ⇒ 0x8003 ∷ [])
    ∷ in_state 0x8003 (no in_ ⇒ 0x8002 ∷ edge ⇒ 0x8000 ∷ [])
    ∷ in_state 0x8000 (no in_ ⇒ 0x8004 ∷ [])
    ∷ in_state 0x8004 (reset ⇒ 0xC002 ∷ in_ ⇒ 0x8005 ∷ [])
    ∷ in_state 0x8005 (no in_ ⇒ 0x8004 ∷ auto ⇒ 0x8000 ∷ edge ⇒ 0x8000 ∷ [])
    ∷ in_state 0xC001 (no reset ⇒ 0x8002 ∷ [])
    ∷ in_state 0xC002 (no reset ⇒ 0x8004 ∷ [])
    ∷ []
