use Rattle.std.proofs.Common.{◌≡◌, ◌∙◌, sym, ap, arith, ⊎_elim}
use Rattle.std.proofs.lemmas.Bool.{cases_lt}
use Rattle.ps_model.specs.Network.{is_new}
use Rattle.ps_cut.proofs.Copying.{driven_by}
use Rattle.ps_cut.proofs.checking.has_drivers.Goals as goal

pub loop-r-preserved : goal.loop-r-preserved
loop-r-preserved c = λ r from below. ⊎_elim
    (λ earlier. c.loop-r.invariant r from earlier)
    (λ here.
    let net = c.args.part.now in
    let same : c.loop-r.r ≡ r = omega arith in
    driven_by net r from (ap (λ n. is_new net n r) (sym c.step_count.ensures) ∙ (ap (λ s. is_new net c.step_count.result s) (sym same) ∙ sym c.if-not-is_new.ensures)))
    (cases_lt r c.loop-r.r)

pub returns : goal.returns
returns c = λ on r from below. c.loop-r.invariant r from (omega (arith, c.loop-r-test.false, c.signal_count-r-end.ensures, below))
