use Rattle.std.proofs.Common.{◌≡◌, Some, subst}
use Rattle.ps_names.specs.Offences.{refused}
use Rattle.ps_names.specs.Rules.{offences}
use Rattle.ps_names.specs.Stands.{Stands}
use Rattle.ps_parser.specs.Tree.{SourceTree}
use Rattle.ps_pairs.proofs.arranging.app_arranged.Goals as goal

pub returns-in-Ok : goal.returns-in-Ok
returns-in-Ok c = subst (λ (t : SourceTree). Stands t c.in-Ok.other) c.in_ok-arrange.ensures c.in-Ok.ensures

pub returns-in-Err-Refused : goal.returns-in-Err-Refused
returns-in-Err-Refused c =
    let is = rw c.in-Err-Refused.field-0-is at c.in-Err-Refused.ensures in (
      c.in-Err-Refused.field-0-0,
      subst (λ (t : SourceTree). refused (offences t) ≡ Some c.in-Err-Refused.field-0-0) c.in_ok-arrange.ensures is,
    )
