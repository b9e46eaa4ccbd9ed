use Rattle.ps_lsp_text.proofs.AmongTokens.{Known}
use Rattle.ps_lsp_text.proofs.declared.declaration_of.Given as goal

abbrev pub invariant-loop-i : goal.invariant-loop-i
invariant-loop-i l = Known l.tokens l.name l.upto l.i l.found
