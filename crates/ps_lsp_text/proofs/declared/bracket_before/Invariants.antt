use Rattle.ps_lsp_text.proofs.OpenBrackets.{NoneOpen}
use Rattle.ps_lsp_text.proofs.declared.bracket_before.Given as goal

abbrev pub invariant-loop-i : goal.invariant-loop-i
invariant-loop-i l = NoneOpen l.tokens l.at l.i l.depth

abbrev pub decreases-loop-i : goal.decreases-loop-i
decreases-loop-i l = l.i
