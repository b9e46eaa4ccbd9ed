use Rattle.std.proofs.Common.{◌≡◌, ℕ, ◌<◌, ◌≤◌, Some}
use Rattle.ps_lexer.specs.declared.token.Form.TheVariants as form
use Rattle.ps_lsp_text.specs.Looking.{form_in}
use Rattle.ps_lsp_text.proofs.driving.end_from.Given as goal

abbrev pub invariant-loop-i : goal.invariant-loop-i
invariant-loop-i l = (j : ℕ) → l.at ≤ j → j < l.i → form_in l.tokens j ≡ Some form.Semicolon → ⊥
