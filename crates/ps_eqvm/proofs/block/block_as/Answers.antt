use Rattle.std.proofs.Common.{◌≡◌, ◌+◌, ◌≤◌, ◌∙◌, length, arith}
use Rattle.ps_model.specs.Blocks.{output_count}
use Rattle.ps_model.specs.Budgets.{boolean_count}
use Rattle.ps_eqvm.specs.Rows.{operands}
use Rattle.ps_eqvm.specs.Acting.{pin_bytes}
use Rattle.ps_eqvm.proofs.Blocks.{miscount_traps, is_uneven, is_stepped}
use Rattle.ps_eqvm.proofs.PinsRead.{pin_count_is}
use Rattle.ps_eqvm.proofs.block.block_as.Goals as goal

pub returns-then-count-boolean_pins : goal.returns-then-count-boolean_pins
returns-then-count-boolean_pins c =
    let a = c.args in
    let s = a.site in
    let bytes = pin_bytes s.signals a.plain.now.cells (operands a.code.now a.from a.count) in
    let size = pin_count_is s.signals a.plain.now.cells a.code.now a.from a.count in
    let fits : s.first + output_count a.kind ≤ s.signals = omega (arith, c.if-from.false, c.from.ensures, c.from-2.ensures, c.from-3.ensures, c.all_outputs.ensures) in
    c.trap_miscount.ensures ∙ miscount_traps s.signals s.instance s.first s.limit s.next a.kind bytes a.plain.now fits (λ e. c.if-count-boolean_pins.true (omega (arith, e, size, c.boolean_pins.ensures.count)))

pub returns-in-Odd : goal.returns-in-Odd
returns-in-Odd c =
    let a = c.args in
    let s = a.site in
    let bytes = pin_bytes s.signals a.plain.now.cells (operands a.code.now a.from a.count) in
    let size = pin_count_is s.signals a.plain.now.cells a.code.now a.from a.count in
    let fits : s.first + output_count a.kind ≤ s.signals = omega (arith, c.if-from.false, c.from.ensures, c.from-2.ensures, c.from-3.ensures, c.all_outputs.ensures) in
    let count : length bytes ≡ boolean_count a.kind = omega (arith, size, c.if-count-boolean_pins.false, c.boolean_pins.ensures.count) in
    c.trap-in-Odd.ensures ∙ is_uneven s.signals s.instance s.first s.limit s.next a.kind bytes a.plain.now fits count c.in-Odd.ensures.0 c.in-Odd.ensures.1

pub returns-in-Bits : goal.returns-in-Bits
returns-in-Bits c =
    let a = c.args in
    let s = a.site in
    let bytes = pin_bytes s.signals a.plain.now.cells (operands a.code.now a.from a.count) in
    let size = pin_count_is s.signals a.plain.now.cells a.code.now a.from a.count in
    let fits : s.first + output_count a.kind ≤ s.signals = omega (arith, c.if-from.false, c.from.ensures, c.from-2.ensures, c.from-3.ensures, c.all_outputs.ensures) in
    let count : length bytes ≡ boolean_count a.kind = omega (arith, size, c.if-count-boolean_pins.false, c.boolean_pins.ensures.count) in
    c.step_as.ensures ∙ is_stepped s.signals s.instance s.first s.limit s.next a.kind bytes a.plain.now fits count c.in-Bits.ensures.0 c.in-Bits.ensures.1 c.in-Bits.bits c.in-Bits.ensures.2
