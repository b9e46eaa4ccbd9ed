use Rattle.std.proofs.Common.{◌≡◌, arith}
use Rattle.ps_lsp_text.proofs.Deciding.{whole}
use Rattle.ps_lsp_text.proofs.fronts.front_of.Goals as goal

pub returns-then-bytes : goal.returns-then-bytes
returns-then-bytes c =
    let same : c.as_bytes-bytes.result.now ≡ c.args.text.now = cc in whole c.as_bytes-bytes.result.now c.args.text.now same (omega arith)
