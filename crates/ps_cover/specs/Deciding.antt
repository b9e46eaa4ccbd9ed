-- Values, and what leaves a decision to an operand.
use Rattle.std.specs.Prelude.{Bool, true, false, not}
use Rattle.ps_model.specs.Formula.{Formula, all_of, any_of, signal}

-- a value is this one
abbrev pub is_value : (b v : Bool) → Bool
is_value true v = v
is_value false v = not v

-- a formula is an AND
abbrev pub is_and : Formula → Bool
is_and (all_of es) = true
is_and (any_of es) = false
is_and (signal s) = false
