use Rattle.std.proofs.Common.{◌∙◌, ap}
use Rattle.ps_lsp_text.specs.Published.{text_of}
use Rattle.ps_lsp_text.proofs.Utf8Text.{no_text, own_text}
use Rattle.ps_lsp_text.proofs.published.words_in.Goals as goal

pub returns-in-Ok : goal.returns-in-Ok
returns-in-Ok c =
    own_text c.as_slice.result.now c.in-Ok.words.now c.in-Ok.ensures.cases.0 c.in-Ok.ensures.cases.1 ∙ ap text_of c.as_slice.ensures

pub returns-in-Err : goal.returns-in-Err
returns-in-Err c = no_text c.as_slice.result.now c.in-Err.ensures.cases.0 ∙ ap text_of c.as_slice.ensures
