use Rattle.std.proofs.Common.{◌∙◌, sym, ap, arith}
use Rattle.ps_model.specs.Scanning.{pins_under}
use Rattle.ps_machine.proofs.Bitwise.{few_inputs, one_on, one_off}
use Rattle.ps_model.specs.PinBits.{pin_of}
use Rattle.ps_machine.specs.Reading.{read_in}
use Rattle.ps_machine.proofs.pins.read_pins.Goals as goal
use Rattle.ps_machine.proofs.pins.read_pins.Goals.{then-read_pin, else-read_pin}

pub overflow_cast-j : goal.overflow_cast-j
overflow_cast-j c = omega (arith, few_inputs c.args.kind)

pub overflow_cast-bits : goal.overflow_cast-bits
overflow_cast-bits c = omega (arith, few_inputs c.args.kind)

pub overflow_shl-bits : goal.overflow_shl-bits
overflow_shl-bits c = omega (arith, few_inputs c.args.kind)

pub loop-j-preserved : goal.loop-j-preserved
loop-j-preserved c =
    let v = read_in c.args.app.now c.args.signals.now c.args.k in
    let f = pins_under v c.args.kind c.args.args.now in
    λ k. elim c.if-read_pin.branch [
      | then-read_pin w ↦ ap (λ n. pin_of n k) w.bits-is ∙ one_on f c.loop-j.bits c.loop-j.j c.loop-j.invariant (omega (arith, few_inputs c.args.kind)) (sym w.if-read_pin.ensures) k
      | else-read_pin w ↦ ap (λ n. pin_of n k) w.bits-is ∙ one_off f c.loop-j.bits c.loop-j.j c.loop-j.invariant (sym w.if-read_pin.ensures) k
    ]
