use Rattle.std.proofs.Common.{◌∙◌, ap, ap₂}
use Rattle.std.specs.Prelude.{option_map}
use Rattle.ps_lsp_text.specs.Findings.{TellMost, refusal_out, rest_out}
use Rattle.ps_lsp_text.proofs.Adding.{got, of_whole, told_most}
use Rattle.ps_lsp_text.proofs.finding_all.findings_of.Goals as goal

pub returns : goal.returns
returns c =
    of_whole (λ found. found.items) (TellMost c.args.text.now c.args.tokens.now c.args.refusals.now) _ _ c.finish.result c.finish.ensures
    (told_most c.args.text.now c.args.tokens.now c.args.refusals.now c.first_of.result.now _ _ _ _ _ _ _ c.new-list.ensures c.first_of.ensures
    c.add_each.ensures c.add_rest.ensures
    (ap₂ (rest_out c.args.text.now)
    (c.refusal_out-next.ensures ∙ ap (option_map refusal_out) (got c.args.refusals.now 20 c.get.result c.get.ensures.lookup.3))
    c.saturating_sub.ensures))
