use Rattle.ps_lsp_text.proofs.AnswersTelling.{tells_of}
use Rattle.ps_lsp_text.proofs.server.Server.opened.Goals as goal

pub returns-clause-tells : goal.returns-clause-tells
returns-clause-tells c =
    tells_of c.args.uri.now c.args.text.now c.in_ok-findings.findings c.published.result c.front_of-front.result.now
    c.front_of-front.ensures (λ whole of. c.in_ok-findings.ensures c.front_of-front.result.now whole c.in_ok-hold.ensures of)
    c.published.ensures
