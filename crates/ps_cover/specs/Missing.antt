-- What is known with FALSE, and with TRUE.
use Rattle.std.specs.Prelude.{Bool, true, false}

-- what is known with this value
abbrev pub of_value : (value off on : Bool) → Bool
of_value true off on = on
of_value false off on = off
