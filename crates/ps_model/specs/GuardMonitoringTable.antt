-- The transition table of SF_GuardMonitoring. Profile of this project, after PLCopen TC5.
use Rattle.std.specs.Prelude.{List, [], ◌∷◌}
use Rattle.ps_model.specs.Table.{Guard, Row, ◌⇒◌, pin, edge, static, elapsed, otherwise, ◌and◌, no, in_state}

-- S_GuardSwitch1
abbrev pub g1 : Guard
g1 = pin 1

-- S_GuardSwitch2
abbrev pub g2 : Guard
g2 = pin 2

-- S_StartReset
abbrev pub start : Guard
start = pin 3

-- S_AutoReset
abbrev pub auto : Guard
auto = pin 4

-- Reset
abbrev pub reset : Guard
reset = pin 5

-- both switches are closed
abbrev pub both : Guard
both = g1 and g2

-- both switches are open
abbrev pub none : Guard
none = no g1 and no g2

-- the states of SF_GuardMonitoring
abbrev pub table : List Row
table =
    in_state 0x8001 (both and start ⇒ 0x8000 ∷ both ⇒ 0x8003 ∷ otherwise ⇒ 0x8002 ∷ [])
    ∷ in_state 0x8002 (none ⇒ 0x8012 ∷ [])
    ∷ in_state 0x8012 (both ⇒ 0x8005 ∷ g1 ⇒ 0x8004 ∷ g2 ⇒ 0x8014 ∷ [])
    ∷ in_state 0x8004 (elapsed ⇒ 0xC011 ∷ both ⇒ 0x8005 ∷ none ⇒ 0x8012 ∷ no g1 ⇒ 0x8002 ∷ [])
    ∷ in_state 0x8014 (elapsed ⇒ 0xC012 ∷ both ⇒ 0x8005 ∷ none ⇒ 0x8012 ∷ no g2 ⇒ 0x8002 ∷ [])
    ∷ in_state 0x8005 (no both ⇒ 0x8002 ∷ auto ⇒ 0x8000 ∷ otherwise ⇒ 0x8003 ∷ [])
    ∷ in_state 0x8003 (no both ⇒ 0x8002 ∷ edge ⇒ 0x8000 ∷ static ⇒ 0xC001 ∷ [])
    ∷ in_state 0x8000 (no both ⇒ 0x8002 ∷ [])
    ∷ in_state 0xC001 (no reset ⇒ 0x8003 ∷ [])
    ∷ in_state 0xC011 (none ⇒ 0x8012 ∷ [])
    ∷ in_state 0xC012 (none ⇒ 0x8012 ∷ [])
    ∷ []
