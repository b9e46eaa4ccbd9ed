-- A call that fails says nothing of a value.
use Rattle.std.proofs.Common.{◌≡◌, ◌∙◌, Result, Ok, Err, sym, subst}
use Rattle.std.proofs.lemmas.Result.{err_from_is_err_and}
use Rattle.std.specs.Prelude.{IfOk, IsErrAnd}

-- what holds of a value holds where there is none
pub unsaid : {T E : Type 0} (P : T → Type 0) (Q : E → Type 0) (r : Result T E) → IsErrAnd r Q → IfOk r P
unsaid {T = T} {E = E} P Q r is =
    let failed = err_from_is_err_and {Q = Q} r is in
    subst (λ (x : Result T E). IfOk x P) (sym failed.1) tt

-- it gives none
pub no_value : {T E P : Type 0} (Q : E → Type 0) (r : Result T E) (x : T) → IsErrAnd r Q → r ≡ Ok x → P
no_value {E = E} Q r x is given =
    let failed = err_from_is_err_and {Q = Q} r is in
    let no : Err failed.0 ≡ Ok x = sym failed.1 ∙ given in cc
