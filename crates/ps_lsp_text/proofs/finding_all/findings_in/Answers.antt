use Rattle.std.proofs.Common.{◌≡◌, Err}
use Rattle.ps_base.specs.declared.failing.Fail.TheVariants.{Refused}
use Rattle.ps_lsp_text.proofs.Telling.{told, told_noted}
use Rattle.ps_lsp_text.proofs.finding_all.findings_in.Goals as goal

pub returns-in-Ok : goal.returns-in-Ok
returns-in-Ok c =
    told_noted c.args.text.now c.accept_text.result c.in-Ok.accepted c.into_sourced-source.result.0 c.into_sourced-source.result.1
    c.findings_on.result c.accept_text.ensures.decides c.in-Ok.is c.in-Ok.ensures.sourced c.into_sourced-source.ensures.source
    c.into_sourced-source.ensures.app c.findings_on.ensures

pub returns-in-Err-Refused : goal.returns-in-Err-Refused
returns-in-Err-Refused c =
    let same : c.accept_text.result ≡ Err (Refused c.in-Err-Refused.refusal) = cc in
    told c.args.text.now c.accept_text.result c.in-Err-Refused.refusal c.findings_behind.result c.accept_text.ensures.decides same
    c.findings_behind.ensures
