use Rattle.std.proofs.Common.{arith}
use Rattle.ps_lsp_text.proofs.Items.{outputs_more}
use Rattle.ps_lsp_text.proofs.completing.add_outputs.Goals as goal

pub loop-pin-preserved : goal.loop-pin-preserved
loop-pin-preserved c = λ empty whole.
    let added = c.add_pin_item.ensures (omega (arith, c.pin_count-pin-end.ensures)) whole in
    let so_far = c.loop-pin.invariant empty added.0 in
    let count = so_far.count in
    outputs_more c.args.kind c.loop-pin.pin c.loop-pin.list.list.items c.add_pin_item.new.list.list.items so_far (added.1 (omega arith))
