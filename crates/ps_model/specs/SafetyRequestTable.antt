-- The transition table of SF_SafetyRequest. Profile of this project, after PLCopen TC5.
use Rattle.std.specs.Prelude.{List, [], ◌∷◌}
use Rattle.ps_model.specs.Table.{Guard, Row, ◌⇒◌, pin, edge, static, elapsed, no, in_state}

-- S_OpMode
abbrev pub o : Guard
o = pin 1

-- S_Acknowledge
abbrev pub k : Guard
k = pin 2

-- Reset
abbrev pub reset : Guard
reset = pin 3

-- the states of SF_SafetyRequest
abbrev pub table : List Row
table =
    in_state 0x8001 (o ⇒ 0x8012 ∷ no o ⇒ 0x8003 ∷ [])
    ∷ in_state 0x8012 (no o ⇒ 0x8003 ∷ edge ⇒ 0x8002 ∷ [])
    ∷ in_state 0x8002 (no o ⇒ 0x8003 ∷ [])
    ∷ in_state 0x8003 (o ⇒ 0x8012 ∷ k ⇒ 0x8000 ∷ elapsed ⇒ 0xC003 ∷ [])
    ∷ in_state 0x8000 (no k ⇒ 0xC002 ∷ o ⇒ 0x8002 ∷ [])
    ∷ in_state 0xC002 (edge ⇒ 0x8005 ∷ static ⇒ 0xC004 ∷ [])
    ∷ in_state 0xC003 (edge ⇒ 0x8005 ∷ static ⇒ 0xC005 ∷ [])
    ∷ in_state 0xC004 (no reset ⇒ 0xC002 ∷ [])
    ∷ in_state 0xC005 (no reset ⇒ 0xC003 ∷ [])
    ∷ in_state 0x8005 (o ⇒ 0x8012 ∷ [])
    ∷ []
