use Rattle.std.proofs.Common.{◌∷◌, [], ◌++◌, sym, ◌+◌}
use Rattle.ps_lsp_text.specs.Describing.{pin_text, pins_below}
use Rattle.ps_lsp_text.proofs.Growing.{extends_as, extends_both, extends_none, no_pins, pins_more}
use Rattle.ps_lsp_text.proofs.described.add_pins.Goals as goal

pub loop-pin-init : goal.loop-pin-init
loop-pin-init c = extends_as c.args.text.now c.args.text.now [] (pins_below c.args.kind 0) (sym (no_pins c.args.kind)) (extends_none c.args.text.now)

pub loop-pin-preserved : goal.loop-pin-preserved
loop-pin-preserved c =
    let pin = c.loop-pin.pin in
    let kind = c.args.kind in
    extends_as c.args.text.now c.add_pin.new.text (pins_below kind pin ++ (10 ∷ [] ++ pin_text kind pin)) (pins_below kind (pin + 1)) (sym (pins_more kind pin))
    (extends_both c.args.text.now c.loop-pin.text c.add_pin.new.text (pins_below kind pin) (10 ∷ [] ++ pin_text kind pin) c.loop-pin.invariant
    (extends_both c.loop-pin.text c.add.new.self c.add_pin.new.text (10 ∷ []) (pin_text kind pin) c.add.ensures c.add_pin.ensures))
