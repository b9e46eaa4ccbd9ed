use Rattle.std.proofs.Common.{◌∙◌, ap, ap₂, map}
use Rattle.std.specs.Prelude.{option_map}
use Rattle.ps_lsp_text.specs.Findings.{odd_found, odd_out, rest_out}
use Rattle.ps_lsp_text.proofs.Adding.{adds_found, got}
use Rattle.ps_lsp_text.proofs.finding_all.add_odd.Goals as goal

pub returns : goal.returns
returns c =
    adds_found _ _ _ _ _ _ _ _ _ _ c.add_odds.ensures c.add_rest.ensures
    (ap (map (odd_found c.args.text.now c.args.tokens.now)) c.first_of.ensures)
    (ap₂ (rest_out c.args.text.now)
    (c.odd_out-next.ensures ∙ ap (option_map odd_out) (got c.args.comments.now 20 c.get.result c.get.ensures.lookup.3))
    c.saturating_sub.ensures)
