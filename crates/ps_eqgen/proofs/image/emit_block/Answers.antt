use Rattle.std.proofs.Common.{◌≡◌, ◌++◌, length, subst, sym, ap, ◌∙◌}
use Rattle.std.specs.Prelude.{OnOk}
use Rattle.std.specs.Int.{w16, to_be_bytes}
use Rattle.std.specs.List.{flat_map}
use Rattle.std.proofs.lemmas.List.FromFn.{length-map-range_with_len}
use Rattle.ps_model.specs.Blocks.{block}
use Rattle.ps_model.specs.Budgets.{boolean_count}
use Rattle.ps_eqvm.specs.Rows.{block_row}
use Rattle.ps_eqvm.specs.Code.{encoded, operand_of_pin, pins_operands}
use Rattle.ps_eqgen.proofs.Written.{block_whole}
use Rattle.ps_eqgen.proofs.image.emit_block.Goals as goal

pub returns : goal.returns
returns c =
    let before = c.args.code.now.items in
    let i = c.args.instance in
    let kind = c.args.kind in
    let first = c.args.first in
    let pins = pins_operands kind c.args.args.now in
    let many : length pins ≡ c.boolean_pins-count.result =
    length-map-range_with_len (operand_of_pin kind c.args.args.now) 0 (boolean_count kind) ∙ sym c.boolean_pins-count.ensures.count in
    subst (λ l. OnOk c.emit_operands.result (c.emit_operands.new.code.items ≡ l)) (
    ap (λ l. l ++ flat_map (to_be_bytes w16) pins) c.in_ok-emit_head.ensures
    ∙ block_whole before i c.number_of-number.result first c.call_limit-limit.result c.boolean_pins-count.result pins many
    ∙ ap (λ k. before ++ encoded (block_row i k first c.call_limit-limit.result pins)) c.number_of-number.ensures
    ∙ ap (λ t. before ++ encoded (block_row i (block kind).number first t pins)) c.call_limit-limit.ensures
    ) c.emit_operands.ensures
