use Rattle.std.proofs.Common.{◌≡◌, ◌<◌, ◌∙◌, refl, ap, subst, arith, ⊎_elim}
use Rattle.std.specs.Prelude.{slice_get}
use Rattle.std.proofs.lemmas.Bool.{cases_lt}
use Rattle.std.proofs.lemmas.Option.{slice_get_within}
use Rattle.ps_model.specs.Network.{instance_count, kind_at}
use Rattle.ps_cut.proofs.checking.has_kinds.Goals as goal

pub loop-i-preserved : goal.loop-i-preserved
loop-i-preserved c = λ i h below at. ⊎_elim
    (λ earlier. c.loop-i.invariant i h earlier at)
    (λ here.
    let claim = c.args.claim.now in
    let same : c.loop-i.i ≡ i = omega arith in
    subst (λ n. (h < instance_count claim.whole.now) × (kind_at claim.part.now n ≡ kind_at claim.whole.now h)) same
    (c.if-not-has_kind.ensures refl h (ap (λ n. slice_get claim.instances.now n) same ∙ at)))
    (cases_lt i c.loop-i.i)

pub returns : goal.returns
returns c = λ on i h at.
    c.loop-i.invariant i h (omega (arith, c.requires, c.loop-i-test.false, c.instance_count-i-end.ensures, slice_get_within c.args.claim.now.instances.now i h at)) at
