use Rattle.std.proofs.Common.{◌≡◌, ◌∙◌, refl, ap, arith, ⊎_elim}
use Rattle.std.specs.Prelude.{slice_get}
use Rattle.std.proofs.lemmas.Bool.{cases_lt}
use Rattle.std.proofs.lemmas.Option.{slice_get_within}
use Rattle.ps_cut.proofs.asks.are_said.Goals as goal

pub loop-r-preserved : goal.loop-r-preserved
loop-r-preserved c = λ r o said below at at'. ⊎_elim
    (λ earlier. c.loop-r.invariant r o said earlier at at')
    (λ here.
    let same : c.loop-r.r ≡ r = omega arith in
    c.if-not-is_said_at.ensures refl o said
    (ap (λ n. slice_get c.args.claim.now.origins.now n) same ∙ at) (ap (λ n. slice_get c.args.inputs.now n) same ∙ at'))
    (cases_lt r c.loop-r.r)

pub returns : goal.returns
returns c = λ on r o said at at'.
    c.loop-r.invariant r o said (omega (arith, c.loop-r-test.false, slice_get_within c.args.inputs.now r said at')) at at'
