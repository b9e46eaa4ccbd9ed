use Rattle.std.proofs.Common.{◌≡◌, ◌∙◌, true, false, List, ap, sym}
use Rattle.ps_lexer.specs.declared.token.Token.{Token}
use Rattle.ps_lsp_text.specs.Hovering.{is_output_place}
use Rattle.ps_lsp_text.proofs.Definitions.{if_none_then}
use Rattle.ps_lsp_text.proofs.Hovers.{no_input, no_output}
use Rattle.ps_lsp_text.proofs.hovering.kind_of_pin.Goals as goal

pub returns-then-is_output_place-clause-none : goal.returns-then-is_output_place-clause-none
returns-then-is_output_place-clause-none c =
    let sight = c.args.sight.now in
    let after : is_output_place sight.today c.args.at ≡ true =
    ap (λ (l : List Token). is_output_place l c.args.at) (sym c.today.ensures) ∙ sym c.is_output_place.ensures ∙ c.if-is_output_place.true in
    if_none_then c.kind_of_output.result c.kind_of_output.ensures.none (no_output sight.today sight.earlier c.args.at after)

pub returns-then-is_before_assign-clause-none : goal.returns-then-is_before_assign-clause-none
returns-then-is_before_assign-clause-none c =
    let sight = c.args.sight.now in
    let apart : is_output_place sight.today c.args.at ≡ false =
    ap (λ (l : List Token). is_output_place l c.args.at) (sym c.today.ensures) ∙ sym c.is_output_place.ensures ∙ c.if-is_output_place.false in
    if_none_then c.kind_of_input.result c.kind_of_input.ensures.none (no_input sight.today sight.earlier c.args.at apart)
