use Rattle.std.proofs.Common.{ap}
use Rattle.ps_lsp_text.specs.declared.texts.Text.{Text}
use Rattle.ps_lsp_text.proofs.HeldTexts.{held_set}
use Rattle.ps_lsp_text.proofs.texts.Texts.note_parsed.Goals as goal

pub returns-in-Some : goal.returns-in-Some
returns-in-Some c = λ name.
    held_set name c.args.self.now.list.items c.in-Some.number _ c.index_mut.result.now
    (ap (λ (t : Text). t.uri) c.index_mut.ensures.value) (ap (λ (t : Text). t.bytes) c.index_mut.ensures.value)
