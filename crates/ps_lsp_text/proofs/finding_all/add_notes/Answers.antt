use Rattle.std.proofs.Common.{◌∙◌, ap, ap₂, map}
use Rattle.std.specs.Prelude.{option_map}
use Rattle.ps_lsp_text.specs.Findings.{note_found, note_out, rest_out}
use Rattle.ps_lsp_text.proofs.Adding.{adds_found, got}
use Rattle.ps_lsp_text.proofs.finding_all.add_notes.Goals as goal

pub returns : goal.returns
returns c =
    adds_found _ _ _ _ _ _ _ _ _ _ c.add_noted.ensures c.add_rest.ensures
    (ap (map (note_found c.args.text.now c.args.tokens.now c.args.app.now)) c.first_of.ensures)
    (ap₂ (rest_out c.args.text.now)
    (c.note_out-next.ensures ∙ ap (option_map note_out) (got c.args.notes.now 20 c.get.result c.get.ensures.lookup.3))
    c.saturating_sub.ensures)
