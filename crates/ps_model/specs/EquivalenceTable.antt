-- The transition table of SF_Equivalent, with A = S_ChannelA and B = S_ChannelB, and of SF_Antivalent, with A =
-- S_ChannelNC and B = not S_ChannelNO. Profile of this project, after PLCopen TC5.
use Rattle.std.specs.Prelude.{List, [], ◌∷◌}
use Rattle.ps_model.specs.Table.{Guard, Row, ◌⇒◌, elapsed, ◌and◌, no, in_state}

module _ (a b : Guard) where
  -- A and B
  abbrev pub both : Guard
  both = a and b

  -- neither A nor B
  abbrev pub none : Guard
  none = no a and no b

  -- the states of both kinds, over A and B
  abbrev pub table : List Row
  table =
      in_state 0x8001 (both ⇒ 0x8000 ∷ a ⇒ 0x8004 ∷ b ⇒ 0x8014 ∷ [])
      ∷ in_state 0x8004 (elapsed ⇒ 0xC001 ∷ no a ⇒ 0x8001 ∷ b ⇒ 0x8000 ∷ [])
      ∷ in_state 0x8014 (elapsed ⇒ 0xC002 ∷ no b ⇒ 0x8001 ∷ a ⇒ 0x8000 ∷ [])
      ∷ in_state 0x8000 (none ⇒ 0x8001 ∷ no both ⇒ 0x8005 ∷ [])
      ∷ in_state 0x8005 (elapsed ⇒ 0xC003 ∷ none ⇒ 0x8001 ∷ [])
      ∷ in_state 0xC001 (none ⇒ 0x8001 ∷ [])
      ∷ in_state 0xC002 (none ⇒ 0x8001 ∷ [])
      ∷ in_state 0xC003 (none ⇒ 0x8001 ∷ [])
      ∷ []
