use Rattle.std.proofs.Common.{◌≡◌, ℕ, ◌<◌, false, get_or}
use Rattle.ps_lexer.specs.declared.token.Token.{Token}
use Rattle.ps_lsp_text.specs.Looking.{is_touched}
use Rattle.ps_lsp_text.proofs.looking.name_touched.Given as goal

abbrev pub invariant-loop-i : goal.invariant-loop-i
invariant-loop-i l = (k : ℕ) → k < l.i → (d : Token) → is_touched l.place (get_or l.tokens k d) ≡ false
