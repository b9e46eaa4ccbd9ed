use Rattle.std.proofs.Common.{◌<◌, ap, ◌∙◌, arith, length}
use Rattle.ps_model.specs.Blocks.{block}
use Rattle.ps_model.specs.PinBits.{pin_of}
use Rattle.ps_model.proofs.Budgeting.{boolean_within}
use Rattle.ps_rows.proofs.FreePins.{free_pin_is}
use Rattle.ps_rows.proofs.kinds.free_value.Goals as goal

pub pin-requires : goal.pin-requires
pin-requires c = omega (arith, c.requires, c.entry_of.ensures.boolean_pins, c.entry_of.ensures.few_pins, c.from.ensures)

pub returns : goal.returns
returns c =
    let low : c.args.j < length (block c.args.kind).inputs = omega (arith, c.requires, boolean_within c.args.kind) in
    c.pin.ensures
    ∙ ap (pin_of c.entry_of.result.now.free_pins) c.from.ensures
    ∙ free_pin_is c.args.kind c.entry_of.result.now c.args.j c.entry_of.ensures low
