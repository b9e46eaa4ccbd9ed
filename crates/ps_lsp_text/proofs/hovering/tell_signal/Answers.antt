use Rattle.std.proofs.Common.{◌++◌, ◌∙◌, List, subst, sym}
use Rattle.ps_lexer.specs.declared.token.Token.{Token}
use Rattle.ps_lsp_text.specs.Hovering.{section_text}
use Rattle.ps_lsp_text.specs.Sections.{IsSectionOf}
use Rattle.ps_lsp_text.proofs.Growing.{extends_as, extends_both}
use Rattle.ps_lsp_text.proofs.Hovers.{input_told, signal_told}
use Rattle.ps_lsp_text.proofs.hovering.tell_signal.Goals as goal

pub returns-then-is_of_inputs : goal.returns-then-is_of_inputs
returns-then-is_of_inputs c =
    let section = c.section_at-section.result in
    let sight = c.args.sight.now in (
      section_text section,
      input_told c.args.asked.text.now sight.today sight.earlier c.args.name.now c.args.declared c.args.ty.now section
          (subst (λ (l : List Token). IsSectionOf l c.args.declared.at section) c.tokens_with.ensures.are c.section_at-section.ensures)
          (sym c.is_of_inputs.ensures ∙ c.if-is_of_inputs.true),
      extends_as c.args.words.now c.add.new.self c.section_told.result.now (section_text section) c.section_told.ensures c.add.ensures,
    )

pub returns : goal.returns
returns c =
    let section = c.section_at-section.result in
    let sight = c.args.sight.now in
    let told = c.tell_driver.ensures in (
      section_text section ++ told.0,
      signal_told c.args.asked.text.now sight.today sight.earlier c.args.name.now c.args.declared c.args.ty.now section
          (subst (λ (l : List Token). IsSectionOf l c.args.declared.at section) c.tokens_with.ensures.are c.section_at-section.ensures)
          (sym c.is_of_inputs.ensures ∙ c.if-is_of_inputs.false) told.0 told.1 c.is_safe_output.result c.is_safe_output.ensures,
      extends_both c.args.words.now c.add.new.self c.tell_driver.new.words (section_text section) told.0
          (extends_as c.args.words.now c.add.new.self c.section_told.result.now (section_text section) c.section_told.ensures c.add.ensures) told.2,
    )
