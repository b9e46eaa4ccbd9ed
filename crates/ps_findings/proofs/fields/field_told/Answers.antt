use Rattle.std.proofs.Common.{Err, subst}
use Rattle.ps_accepted.specs.Answering.{IsResolved}
use Rattle.ps_base.specs.declared.failing.Fail.{Fail}
use Rattle.ps_findings.proofs.FieldOf.{of_app, of_refused}
use Rattle.ps_findings.proofs.fields.field_told.Goals as goal

pub returns-in-Ok : goal.returns-in-Ok
returns-in-Ok c = record {
  says = of_app c.args.text.now c.args.cause c.in-Differ.field c.args.values c.in-Differ.is c.in-Ok.app c.field_of.result c.in-Ok.ensures.decides
      c.field_of.ensures;
}

pub returns-in-Err-Refused : goal.returns-in-Err-Refused
returns-in-Err-Refused c = record {
  says = of_refused c.args.text.now c.args.cause c.in-Differ.field c.args.values c.in-Differ.is c.in-Err-Refused.field-0-0 c.new-in-Err-Refused.result
      (λ text begins. subst (λ (e : Fail). IsResolved text (Err e)) c.in-Err-Refused.field-0-is (c.in-Err-Refused.ensures.decides text begins))
      c.new-in-Err-Refused.ensures;
}
