use Rattle.ps_lsp_text.specs.Texts.{held}
use Rattle.ps_lsp_text.proofs.AnswersTelling.{found_in_held}
use Rattle.ps_lsp_text.proofs.server.Server.found.Goals as goal

pub returns-in-Some : goal.returns-in-Some
returns-in-Some c =
    found_in_held c.in-Some.text.now (held c.args.self.now.texts c.args.uri.now) c.findings_in.result c.in-Some.ensures
    c.findings_in.ensures
