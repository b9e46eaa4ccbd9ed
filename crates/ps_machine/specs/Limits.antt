-- The limit that stands at a call.
use Rattle.std.specs.Prelude.{ℕ}
use Rattle.ps_model.specs.Action.{Actual, time}

-- the TIME literal that stands at a pin in ms, and else 0
abbrev pub literal_time : Actual → ℕ
literal_time (time t) = t
literal_time _ = 0
