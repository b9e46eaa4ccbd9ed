use Rattle.ps_lsp_text.specs.Sections.{IsSectionOf}
use Rattle.ps_lsp_text.proofs.declared.section_at.Given as goal

abbrev pub invariant-loop-i : goal.invariant-loop-i
invariant-loop-i l = IsSectionOf l.tokens l.i l.section
