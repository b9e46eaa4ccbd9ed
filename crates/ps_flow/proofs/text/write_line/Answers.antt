use Rattle.std.proofs.Common.{◌≡◌, ◌++◌, ◌∷◌, [], ap, ◌∙◌}
use Rattle.std.specs.Prelude.{decimal}
use Rattle.ps_flow.specs.Written.{rule_word}
use Rattle.ps_flow.specs.declared.text.TheConstants.{SPACE}
use Rattle.ps_flow.proofs.Spelling.{premises_text, line_begun}
use Rattle.ps_flow.proofs.text.write_line.Goals as goal

pub loop-premise-init : goal.loop-premise-init
loop-premise-init c =
    let begun : c.extend_from_slice.new.self ≡ ((c.args.text.now ++ decimal c.args.line.now.node) ++ SPACE ∷ []) ++ rule_word c.args.line.now.rule =
    c.in_ok-extend_from_slice.ensures
    ∙ ap (λ z. c.push.new.self ++ z) (c.as_bytes.ensures.value ∙ c.rule_text.ensures)
    ∙ ap (λ z. z ++ rule_word c.args.line.now.rule) (c.in_ok-push.ensures ∙ ap (λ z. z ++ SPACE ∷ []) c.in_ok-write_number.ensures) in
    ap (λ z. z ++ premises_text c.as_slice-premise-items.result.now) begun
    ∙ ap (λ ps. (((c.args.text.now ++ decimal c.args.line.now.node) ++ SPACE ∷ []) ++ rule_word c.args.line.now.rule) ++ premises_text ps) c.as_slice-premise-items.ensures
    ∙ line_begun c.args.text.now c.args.line.now
