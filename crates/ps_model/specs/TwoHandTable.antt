-- The transition tables of SF_TwoHandControlTypeII and SF_TwoHandControlTypeIII (EN 574). Profile of this project,
-- after PLCopen TC5.
use Rattle.std.specs.Prelude.{List, [], ◌∷◌, ◌++◌}
use Rattle.ps_model.specs.Table.{Guard, Rule, Row, ◌⇒◌, pin, elapsed, ◌and◌, no, in_state}

-- S_Button1
abbrev pub b1 : Guard
b1 = pin 1

-- S_Button2
abbrev pub b2 : Guard
b2 = pin 2

-- both buttons are pressed
abbrev pub both : Guard
both = b1 and b2

-- both buttons are released
abbrev pub none : Guard
none = no b1 and no b2

-- Type II, with further rules before those of 8005 and 8006 and with further rows.
module _ (late : List Rule) (late_rows : List Row) where
  -- the states of both kinds, over what type III adds
  abbrev pub rows : List Row
  rows =
      (in_state 0x8001 (both ⇒ 0xC003 ∷ b1 ⇒ 0xC001 ∷ b2 ⇒ 0xC002 ∷ none ⇒ 0x8004 ∷ [])
      ∷ in_state 0xC001 (none ⇒ 0x8001 ∷ [])
      ∷ in_state 0xC002 (none ⇒ 0x8001 ∷ [])
      ∷ in_state 0xC003 (none ⇒ 0x8001 ∷ [])
      ∷ in_state 0x8004 (both ⇒ 0x8000 ∷ b1 ⇒ 0x8005 ∷ b2 ⇒ 0x8006 ∷ [])
      ∷ in_state 0x8005 (late ++ (both ⇒ 0x8000 ∷ none ⇒ 0x8004 ∷ no b1 ⇒ 0x8019 ∷ []))
      ∷ in_state 0x8006 (late ++ (both ⇒ 0x8000 ∷ none ⇒ 0x8004 ∷ no b2 ⇒ 0x8019 ∷ []))
      ∷ in_state 0x8000 (none ⇒ 0x8004 ∷ no b1 ⇒ 0x8008 ∷ no b2 ⇒ 0x8007 ∷ [])
      ∷ in_state 0x8007 (none ⇒ 0x8004 ∷ b2 ⇒ 0x8009 ∷ [])
      ∷ in_state 0x8008 (none ⇒ 0x8004 ∷ b1 ⇒ 0x8009 ∷ [])
      ∷ in_state 0x8009 (none ⇒ 0x8004 ∷ [])
      ∷ in_state 0x8019 (none ⇒ 0x8004 ∷ [])
      ∷ []) ++ late_rows

-- Type II adds nothing.
abbrev pub table_two : List Row
table_two = rows [] []

-- Type III: the second button has to follow within the limit of 500 ms.
abbrev pub table_three : List Row
table_three =
    rows (elapsed and both ⇒ 0xC006 ∷ elapsed and b1 ⇒ 0xC004 ∷ elapsed and b2 ⇒ 0xC005 ∷ [])
    (in_state 0xC004 (none ⇒ 0x8004 ∷ []) ∷ in_state 0xC005 (none ⇒ 0x8004 ∷ []) ∷ in_state 0xC006 (none ⇒ 0x8004 ∷ []) ∷ [])
