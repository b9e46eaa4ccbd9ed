use Rattle.std.proofs.Common.{◌≡◌, ◌++◌, List}
use Rattle.ps_lsp_text.specs.Findings.{notes_found, odds_found}
use Rattle.ps_lsp_text.specs.declared.finding.Finding.{Finding}
use Rattle.ps_lsp_text.proofs.Adding.{adds_all, adds_both, of_whole}
use Rattle.ps_lsp_text.proofs.finding_all.findings_noted.Goals as goal

pub returns : goal.returns
returns c =
    let text = c.args.text.now in
    let shown = c.args.tokens.now in
    let all : List Finding = notes_found text shown c.args.app.now c.args.notes.now ++ odds_found text shown c.args.comments.now in
    of_whole (λ found. found.items) (λ (found : List Finding). found ≡ all) _ _ c.finish.result c.finish.ensures
    (adds_all _ _ _ _ all c.new-list.ensures (adds_both _ _ _ _ _ _ _ _ c.add_notes.ensures c.add_odd.ensures))
