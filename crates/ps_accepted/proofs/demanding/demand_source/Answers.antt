use Rattle.std.proofs.Common.{◌≡◌, ℕ, List, Result, Ok, Err, IsErrAnd, sym, subst}
use Rattle.ps_base.specs.declared.failing.Fail.{Fail}
use Rattle.ps_base.specs.declared.failing.Fail.TheVariants.{Memory, Refused}
use Rattle.ps_accepted.specs.Answering.{IsSourcedAcceptance}
use Rattle.ps_accepted.specs.Demanding.{IsDemanding}
use Rattle.ps_accepted.specs.declared.demanding.Demanded.{Demanded}
use Rattle.ps_accepted.proofs.demanding.demand_source.Goals as goal

-- a text that is refused by the rules before M1 has no demands
exit : (text : List ℕ) (e : Fail) (r : Result Demanded Fail) → IsErrAnd r (λ d. d ≡ e) → IsSourcedAcceptance text (Err e) → IsDemanding text r
exit text e (Ok d) is p = absurd is
exit text e (Err d) is p = subst (λ z. IsDemanding text (Err z)) (sym is) (same e p)
  where
    same : (e : Fail) → IsSourcedAcceptance text (Err e) → IsDemanding text (Err e)
    same Memory p = tt
    same (Refused refusal) p = p

pub returns-in_err-accepted : goal.returns-in_err-accepted
returns-in_err-accepted c = exit c.args.text.now _ _ c.from_residual.ensures.1 c.in_err-accepted.ensures
