-- The transition table of SF_ModeSelector. A way from 8005 to 8000 latches the TRUE mode (`latched`). Profile of this
-- project, after PLCopen TC5.
use Rattle.std.specs.Prelude.{ℕ, List, [], ◌∷◌, ◌==◌, nat_le}
use Rattle.ps_model.specs.Table.{Conditions, Guard, Row, ◌⇒◌, pin, edge, static, rise, elapsed, ◌and◌, ◌or◌, no}
use Rattle.ps_model.specs.Table.{in_state}

-- n, how many modes are TRUE
abbrev pub mode_count : Conditions → ℕ
mode_count c = c.modes

-- no mode is TRUE
abbrev pub none : Guard
none c = mode_count c == 0

-- exactly one mode is TRUE
abbrev pub one : Guard
one c = mode_count c == 1

-- two or more modes are TRUE
abbrev pub two_or_more : Guard
two_or_more c = nat_le 2 (mode_count c)

-- the TRUE modes are exactly m, the latched one
abbrev pub exact : Guard
exact c = c.exact

-- S_Unlock
abbrev pub unlock : Guard
unlock = pin 9

-- AutoSetMode
abbrev pub auto : Guard
auto = pin 11

-- Reset
abbrev pub reset : Guard
reset = pin 12

-- the states of SF_ModeSelector
abbrev pub table : List Row
table =
    record {
      state = 0x8005;
      restart = no none;
      rules =
          two_or_more ⇒ 0xC001 ∷ none and elapsed ⇒ 0xC002 ∷ one and (auto or rise) ⇒ 0x8000 ∷ [];
    }
    ∷ in_state 0x8000 (no exact ⇒ 0x8005 ∷ no unlock ⇒ 0x8004 ∷ [])
    ∷ in_state 0x8004 (unlock and no exact ⇒ 0x8005 ∷ unlock ⇒ 0x8000 ∷ [])
    ∷ in_state 0xC001 (edge ⇒ 0x8005 ∷ static ⇒ 0xC003 ∷ [])
    ∷ in_state 0xC002 (edge ⇒ 0x8005 ∷ static ⇒ 0xC004 ∷ [])
    ∷ in_state 0xC003 (no reset ⇒ 0xC001 ∷ [])
    ∷ in_state 0xC004 (no reset ⇒ 0xC002 ∷ [])
    ∷ []
