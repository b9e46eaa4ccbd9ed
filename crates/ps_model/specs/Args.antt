-- What an argument of the program is.
use Rattle.ps_model.specs.declared.step.Arg.{Arg}
use Rattle.ps_model.specs.declared.step.Arg.TheVariants.{Free, Lit, Time, Value}
use Rattle.ps_model.specs.Exprs.{formula}
use Rattle.ps_model.specs.Action.{Actual, free, literal, time, wired}

-- nothing, a literal, or an expression as a formula
abbrev pub actual : Arg → Actual
actual Free = free
actual (Lit b) = literal b
actual (Time t) = time t
actual (Value e) = wired (formula e)
