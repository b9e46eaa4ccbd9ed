use Rattle.std.proofs.Common.{◌≡◌, ℕ, map, ap, ◌∙◌, sym, arith}
use Rattle.std.specs.List.{list_any, range_with_len}
use Rattle.ps_eqvm.specs.Acting.{byte_of, is_odd}
use Rattle.ps_eqvm.specs.Rows.{operand_of}
use Rattle.ps_eqvm.specs.Finding.{found_of}
use Rattle.ps_eqvm.specs.Pins.{pin_byte}
use Rattle.ps_eqvm.proofs.PinsRead.{any_at, none_more, pin_bytes_are}
use Rattle.ps_eqvm.proofs.block.has_odd.Goals as goal

pub returns-then-was_odd : goal.returns-then-was_odd
returns-then-was_odd c =
    let a = c.args in
    let f = pin_byte a.signals a.plain.now.cells a.code.now a.from in
    let found = c.find.ensures ∙ ap (λ (w : ℕ). found_of (byte_of a.plain.now.cells (operand_of a.signals w))) c.number_in_two.ensures in
    sym (ap (list_any is_odd) (pin_bytes_are a.signals a.plain.now.cells a.code.now a.from a.count)
    ∙ any_at is_odd f a.count c.loop-j.j c.loop-j-test.true (sym (c.was_odd.ensures (f c.loop-j.j) found) ∙ c.if-was_odd.true))

pub loop-j-preserved : goal.loop-j-preserved
loop-j-preserved c =
    let a = c.args in
    let f = pin_byte a.signals a.plain.now.cells a.code.now a.from in
    let found = c.find.ensures ∙ ap (λ (w : ℕ). found_of (byte_of a.plain.now.cells (operand_of a.signals w))) c.number_in_two.ensures in
    none_more is_odd f c.loop-j.j c.loop-j.invariant (sym (c.was_odd.ensures (f c.loop-j.j) found) ∙ c.if-was_odd.false)

pub returns : goal.returns
returns c =
    let a = c.args in
    let f = pin_byte a.signals a.plain.now.cells a.code.now a.from in
    let end : c.loop-j.j ≡ a.count = omega (arith, c.loop-j-test.false, c.loop-j.auto.j-end) in
    sym (ap (list_any is_odd) (pin_bytes_are a.signals a.plain.now.cells a.code.now a.from a.count ∙ ap (λ (n : ℕ). map f (range_with_len 0 n)) (sym end)) ∙ c.loop-j.invariant)
