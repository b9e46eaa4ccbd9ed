-- The states of SF_TwoHandControlTypeIII.
use Rattle.std.specs.Prelude.{ℕ, false}
use Rattle.ps_operator.specs.declared.two_hand_three.Phase.{Phase}
use Rattle.ps_operator.specs.declared.two_hand_three.Phase.TheVariants.{Common, TimeError1, TimeError2, TimeErrorBoth}
use Rattle.ps_operator.specs.declared.two_hand_three.TwoHandThreeState.{TwoHandThreeState}
use Rattle.ps_operator.specs.TwoHandStates as common
use Rattle.ps_model.specs.Kept.{Kept}

-- The DiagCode of each state.
abbrev pub code_of : Phase → ℕ
code_of (Common p) = common.code_of p
code_of TimeError1 = 0xC004
code_of TimeError2 = 0xC005
code_of TimeErrorBoth = 0xC006

-- What a state keeps.
abbrev pub kept_of : TwoHandThreeState → Kept
kept_of s = record { code = code_of s.phase; last_reset = false; last_auxiliary = false; mode = 0; timer = s.since }
