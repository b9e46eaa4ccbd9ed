-- The transition table of SF_EDM. Profile of this project, after PLCopen TC5.
use Rattle.std.specs.Prelude.{ℕ, List, [], ◌∷◌, ◌++◌, ◌+◌, map}
use Rattle.ps_model.specs.Table.{Guard, Row, ◌⇒◌, pin, edge, static, elapsed, ◌and◌, no, in_state}

-- S_OutControl
abbrev pub s : Guard
s = pin 1

-- S_EDM1
abbrev pub e1 : Guard
e1 = pin 2

-- S_EDM2
abbrev pub e2 : Guard
e2 = pin 3

-- S_StartReset
abbrev pub start : Guard
start = pin 4

-- Reset
abbrev pub reset : Guard
reset = pin 5

-- An error state is left at an edge; where Reset is held it becomes the static error of the next code.
abbrev pub error_row : ℕ → Row
error_row q = in_state q (edge ⇒ 0x8010 ∷ static ⇒ (q + 1) ∷ [])

-- A static error goes back when Reset is released.
abbrev pub static_row : ℕ → Row
static_row q = in_state (q + 1) (no reset ⇒ q ∷ [])

-- the error states, each with a static error
abbrev pub errors : List ℕ
errors = 0xC010 ∷ 0xC020 ∷ 0xC030 ∷ 0xC040 ∷ 0xC050 ∷ 0xC060 ∷ 0xC070 ∷ 0xC080 ∷ 0xC090 ∷ []

-- the states of SF_EDM, with the error states after
abbrev pub table : List Row
table =
    (in_state 0x8001 (start ⇒ 0x8010 ∷ edge ⇒ 0x8010 ∷ static ⇒ 0xC001 ∷ [])
    ∷ record {
      state = 0x8010;
      restart = e1 and e2;
      rules =
          s and e1 and e2 ⇒ 0x8000 ∷ s and no e1 and e2 ⇒ 0xC040 ∷ s and e1 and no e2 ⇒ 0xC050 ∷ s ⇒ 0xC060
          ∷ elapsed and no e1 and e2 ⇒ 0xC010 ∷ elapsed and e1 and no e2 ⇒ 0xC020 ∷ elapsed and no e1 and no e2 ⇒ 0xC030 ∷ [];
    }
    ∷ in_state 0x8000 (no s ⇒ 0x8010 ∷ elapsed and e1 and no e2 ⇒ 0xC070 ∷ elapsed and no e1 and e2 ⇒ 0xC080 ∷ elapsed and e1 and e2 ⇒ 0xC090 ∷ [])
    ∷ in_state 0xC001 (no reset ⇒ 0x8001 ∷ [])
    ∷ []) ++ (map error_row errors ++ map static_row errors)
