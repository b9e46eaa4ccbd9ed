-- What holds however a call ends.
use Rattle.std.proofs.Common.{Result, Ok, Err}
use Rattle.std.specs.Prelude.{OnOk}

-- what holds in any case holds where there is no error
pub on_any : {A E : Type 0} (r : Result A E) (X : Type 0) → X → OnOk r X
on_any (Ok a) X x = x
on_any (Err e) X x = tt
