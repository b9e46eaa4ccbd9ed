use Rattle.std.proofs.Common.{◌≡◌, drop}
use Rattle.ps_lsp_text.specs.Pieces.{token_width}
use Rattle.ps_lsp_text.proofs.spans.token_width.Given as goal

abbrev pub invariant-tokens : goal.invariant-tokens
invariant-tokens l = record { left : token_width (drop l.token-index l.tokens) l.place ≡ token_width l.tokens l.place }
