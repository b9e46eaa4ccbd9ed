use Rattle.std.proofs.Common.{◌∙◌, ap, slice_index}
use Rattle.hex.specs.Hex.{upper_digits}
use Rattle.ps_lsp_text.proofs.Capitals.{capital_digit}
use Rattle.ps_lsp_text.proofs.described.capital_digit.Goals as goal

pub returns : goal.returns
returns c = ap (slice_index upper_digits) c.from.ensures ∙ capital_digit c.args.n c.requires
