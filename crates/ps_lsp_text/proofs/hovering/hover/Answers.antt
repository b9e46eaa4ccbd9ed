use Rattle.std.proofs.Common.{◌≡◌, List, Some, Bor, ℕ, option_map, ap, sym, ◌∙◌}
use Rattle.ps_lexer.specs.declared.token.Token.{Token}
use Rattle.ps_lsp_text.specs.Looking.{name_touched}
use Rattle.ps_lsp_text.proofs.Definitions.{name_known}
use Rattle.ps_lsp_text.proofs.Hovers.{hovered, unnamed}
use Rattle.ps_lsp_text.proofs.hovering.hover.Goals as goal

pub returns-in_default-name_at : goal.returns-in_default-name_at
returns-in_default-name_at c =
    let sight = c.in_ok-sight.sight in
    let at = c.in-Some.at in
    let touched : name_touched sight.today c.args.asked.place ≡ Some at =
    ap (λ (l : List Token). name_touched l c.args.asked.place) (sym c.today.ensures) ∙ sym c.name_touched.ensures ∙ c.in-Some.is in
    unnamed c.args.asked.text.now (option_map (λ (x : Bor (List ℕ)). x.now) c.args.asked.parsed) c.args.asked.place sight.today sight.earlier c.in_ok-sight.ensures.today
    c.in_ok-sight.ensures.earlier at touched c.today-2.result.now c.name_at.result c.name_at.ensures c.today-2.ensures c.in_default-name_at.is

pub returns : goal.returns
returns c =
    let sight = c.in_ok-sight.sight in
    let at = c.in-Some.at in
    let told = c.tell_name-is_output.ensures in
    let touched : name_touched sight.today c.args.asked.place ≡ Some at =
    ap (λ (l : List Token). name_touched l c.args.asked.place) (sym c.today.ensures) ∙ sym c.name_touched.ensures ∙ c.in-Some.is in
    hovered c.args.asked.text.now (option_map (λ (x : Bor (List ℕ)). x.now) c.args.asked.parsed) c.args.asked.place sight.today sight.earlier c.in_ok-sight.ensures.today
    c.in_ok-sight.ensures.earlier at touched c.in-Some-name_at.name.now
    (name_known c.today-2.result.now sight.today at c.name_at.result c.in-Some-name_at.name c.name_at.ensures c.today-2.ensures c.in-Some-name_at.is)
    c.of-words.result c.tell_name-is_output.new.words (c.of-words.ensures ∙ c.new.ensures) c.tell_name-is_output.result told.0 told.1 told.2 c.hovered_of.result
    c.hovered_of.ensures
