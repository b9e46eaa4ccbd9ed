use Rattle.std.proofs.Common.{◌≡◌, ℕ, ◌<◌, ◌≤◌, true}
use Rattle.ps_lsp_text.specs.Declaring.{is_listed}
use Rattle.ps_lsp_text.specs.Looking.{form_in}
use Rattle.ps_lsp_text.proofs.declared.colon_from.Given as goal

abbrev pub invariant-loop-i : goal.invariant-loop-i
invariant-loop-i l = (k : ℕ) → l.from ≤ k → k < l.i → is_listed (form_in l.tokens k) ≡ true
