use Rattle.std.proofs.Common.{◌∙◌, sym}
use Rattle.ps_lsp_text.proofs.Outlined.{within_none, within_some}
use Rattle.ps_lsp_text.proofs.declared.is_in_section.Goals as goal

pub returns-in-Some : goal.returns-in-Some
returns-in-Some c = λ before. c.opens_section.ensures ∙ within_some c.args.tokens.now c.args.at c.requires c.in-Some.word (sym c.word_at.ensures ∙ c.in-Some.is)

pub returns-in-None : goal.returns-in-None
returns-in-None c = λ before. before ∙ within_none c.args.tokens.now c.args.at c.requires (sym c.word_at.ensures ∙ c.in-None.is)
