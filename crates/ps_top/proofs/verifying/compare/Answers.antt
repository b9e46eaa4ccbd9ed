use Rattle.std.proofs.Common.{refl, sym, subst, inr}
use Rattle.ps_base.specs.declared.failing.Refusal.{Refusal}
use Rattle.ps_top.specs.Program.{Judges}
use Rattle.ps_top.specs.Program.Ruling.{objects}
use Rattle.ps_top.proofs.verifying.compare.Goals as goal

pub returns-in-Ok : goal.returns-in-Ok
returns-in-Ok c = λ text certificate. (c.args.cert.now, (certificate, c.in-Ok.ensures.derives), c.in-Ok.ensures.counts)

pub returns-in-Err : goal.returns-in-Err
returns-in-Err c = λ text certificate.
    subst (λ (r : Refusal). Judges c.args.app.now text (objects r)) (sym c.at_line.ensures)
    (inr (record { lines = c.args.cert.now; certificate_is = certificate; objection = c.in-Err.ensures.objects; line_alone = refl }))
