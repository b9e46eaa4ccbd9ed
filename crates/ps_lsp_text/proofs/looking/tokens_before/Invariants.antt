use Rattle.std.proofs.Common.{◌≡◌, ℕ, ◌<◌, not, false, get_or}
use Rattle.ps_lexer.specs.declared.token.Token.{Token}
use Rattle.ps_lsp_text.specs.Completing.{begins_before}
use Rattle.ps_lsp_text.proofs.looking.tokens_before.Given as goal

abbrev pub invariant-loop-i : goal.invariant-loop-i
invariant-loop-i l = (k : ℕ) → k < l.i → (d : Token) → not (begins_before l.place (get_or l.tokens k d)) ≡ false
