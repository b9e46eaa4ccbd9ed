use Rattle.std.proofs.Common.{List, ℕ, Bor, option_map, ap, ◌∙◌}
use Rattle.ps_lexer.specs.declared.token.Token.{Token}
use Rattle.ps_lsp_text.specs.Completing.{whole_before}
use Rattle.ps_lsp_text.proofs.Offered.{completed}
use Rattle.ps_lsp_text.proofs.completing.completions.Goals as goal

pub returns : goal.returns
returns c =
    let sight = c.in_ok-sight.sight in
    let place = c.args.asked.place in
    completed c.args.asked.text.now (option_map (λ (x : Bor (List ℕ)). x.now) c.args.asked.parsed) place sight.today sight.earlier
    c.in_ok-sight.ensures.today c.in_ok-sight.ensures.earlier c.whole_before-upto.result c.new-list.result c.add_items_at.new.list
    (c.whole_before-upto.ensures ∙ ap (λ (l : List Token). whole_before l place) c.today.ensures) c.new-list.ensures c.add_items_at.ensures.outputs
    c.add_items_at.ensures.nothing c.finish.result c.finish.ensures
