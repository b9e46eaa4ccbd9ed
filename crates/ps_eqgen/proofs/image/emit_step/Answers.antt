use Rattle.std.proofs.Common.{◌≡◌, ℕ, [], ◌∷◌, ◌++◌, subst, ap, ◌∙◌}
use Rattle.std.specs.Prelude.{OnOk}
use Rattle.ps_model.specs.Blocks.{block}
use Rattle.ps_model.specs.Network.{first_pin}
use Rattle.ps_model.specs.Scanning.{limit_of}
use Rattle.ps_eqvm.specs.Rows.{block_row}
use Rattle.ps_eqvm.specs.Code.{encoded, bytes_of, pins_rows, pins_operands}
use Rattle.ps_eqgen.proofs.Written.{call_whole}
use Rattle.ps_eqgen.proofs.image.emit_step.Goals as goal

pub returns-in_ok-emit_pins-in-Call : goal.returns-in_ok-emit_pins-in-Call
returns-in_ok-emit_pins-in-Call c =
    let before = c.args.code.now.items in
    let i = c.in-Call.instance in
    let args = c.in-Call.args in
    let kind = c.instance_kind-kind.result in
    let row = λ (o : ℕ). block_row i (block kind).number o (limit_of kind args) (pins_operands kind args) in
    rw c.in-Call.is (
    subst (λ l. OnOk c.emit_block.result (c.emit_block.new.code.items ≡ l)) (
    ap (λ l. l ++ encoded (row c.first_pin.result)) c.in_ok-emit_pins-in-Call.ensures
    ∙ call_whole before (pins_rows kind args) (row c.first_pin.result)
    ∙ ap (λ o. before ++ bytes_of (pins_rows kind args ++ row o ∷ [])) c.first_pin.ensures
    ∙ ap (λ k. before ++ bytes_of (pins_rows k args ++ block_row i (block k).number (first_pin c.args.app.now i) (limit_of k args) (pins_operands k args) ∷ [])) c.instance_kind-kind.ensures
    ) c.emit_block.ensures
    )
