use Rattle.ps_lsp_text.proofs.Lasting.{last_given}
use Rattle.ps_lsp_text.proofs.asking.last_of.Goals as goal

pub returns : goal.returns
returns c = last_given c.last.result c.args.changes.now c.last.ensures.value
