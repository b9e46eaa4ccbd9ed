use Rattle.std.proofs.Common.{Ok}
use Rattle.ps_accepted.proofs.Decided.{resolved_whole, resolved_given, resolved_none}
use Rattle.ps_accepted.proofs.deciding.resolve_text.Goals as goal

pub returns : goal.returns
returns c = record {
  decides = λ whole is.
      resolved_whole c.args.text.now whole (Ok c.in_ok-app.app) is (resolved_given c.args.text.now c.in_ok-app.field-0-0 c.in_ok-app.app c.in_ok-app.ensures);
}

pub returns-in_err-app : goal.returns-in_err-app
returns-in_err-app c = record {
  decides = λ whole is.
      resolved_whole c.args.text.now whole c.from_residual.result is (resolved_none c.args.text.now _ c.from_residual.result c.from_residual.ensures.1 c.in_err-app.ensures);
}
