use Rattle.std.proofs.Common.{sym}
use Rattle.ps_lsp_text.proofs.DemandLines.{same_name}
use Rattle.ps_lsp_text.proofs.demanding.is_same_name.Goals as goal

pub returns : goal.returns
returns c = sym (same_name c.eq_ignore_ascii_case.result c.args.name.now c.args.other.now c.eq_ignore_ascii_case.ensures.test)
