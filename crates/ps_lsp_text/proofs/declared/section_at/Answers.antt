use Rattle.std.proofs.Common.{◌+◌, arith, subst, sym, ap, ◌∙◌}
use Rattle.ps_lsp_text.specs.Sections.{IsSectionOf, section_after}
use Rattle.ps_lsp_text.proofs.SectionsAt.{section_all, section_next}
use Rattle.ps_lsp_text.proofs.declared.section_at.Goals as goal

pub loop-i-preserved : goal.loop-i-preserved
loop-i-preserved c =
    subst (IsSectionOf c.args.tokens.now (c.loop-i.i + 1)) (sym (c.section_after-section.ensures ∙ ap (section_after c.loop-i.section) c.word_at.ensures))
    (section_next c.args.tokens.now c.loop-i.i c.loop-i.section c.loop-i.invariant)

pub returns : goal.returns
returns c = section_all c.args.tokens.now c.args.at c.loop-i.i c.loop-i.section (omega arith) c.loop-i.invariant
