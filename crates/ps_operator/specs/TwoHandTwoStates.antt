-- The states of SF_TwoHandControlTypeII.
use Rattle.std.specs.Prelude.{false}
use Rattle.ps_operator.specs.declared.two_hand_two.TwoHandTwoState.{TwoHandTwoState}
use Rattle.ps_operator.specs.TwoHandStates.{code_of}
use Rattle.ps_model.specs.Kept.{Kept}

-- What a state keeps.
abbrev pub kept_of : TwoHandTwoState → Kept
kept_of s = record { code = code_of s.phase; last_reset = false; last_auxiliary = false; mode = 0; timer = s.since }
