use Rattle.std.proofs.Common.{◌≡◌, ℕ, map, ap, ◌∙◌, sym, arith}
use Rattle.std.specs.List.{list_any, range_with_len}
use Rattle.std.proofs.lemmas.Nat.Bits.{bit_at-zero}
use Rattle.ps_eqvm.specs.Acting.{byte_of, is_missing, pins_on}
use Rattle.ps_eqvm.specs.Rows.{operand_of}
use Rattle.ps_eqvm.specs.Finding.{one_of}
use Rattle.ps_eqvm.specs.Pins.{pin_byte}
use Rattle.ps_eqvm.proofs.PinsRead.{read_none, read_one, read_all, missing_at, pin_bytes_are}
use Rattle.ps_eqvm.proofs.block.ones_of.Goals as goal

pub loop-j-init : goal.loop-j-init
loop-j-init c = read_none (pin_byte c.args.signals c.args.plain.now.cells c.args.code.now c.args.from) 0 (λ k. bit_at-zero k)

pub returns-in_err-on-clause-none : goal.returns-in_err-on-clause-none
returns-in_err-on-clause-none c =
    let a = c.args in
    let f = pin_byte a.signals a.plain.now.cells a.code.now a.from in
    let read = c.is_one.ensures ∙ ap (λ (w : ℕ). one_of (byte_of a.plain.now.cells (operand_of a.signals w))) c.number_in_two.ensures in
    rw c.from_residual.ensures (ap (list_any is_missing) (pin_bytes_are a.signals a.plain.now.cells a.code.now a.from a.count)
    ∙ missing_at f a.count c.loop-j.j c.loop-j-test.true (sym read ∙ c.in_err-on.was))

pub loop-j-preserved : goal.loop-j-preserved
loop-j-preserved c =
    let a = c.args in
    let f = pin_byte a.signals a.plain.now.cells a.code.now a.from in
    let read = c.is_one.ensures ∙ ap (λ (w : ℕ). one_of (byte_of a.plain.now.cells (operand_of a.signals w))) c.number_in_two.ensures in
    read_one f c.loop-j.j c.loop-j.bits c.with_bit-bits.result c.in_ok-on.on c.loop-j.invariant (sym read ∙ c.in_ok-on.was) c.with_bit-bits.ensures.same c.with_bit-bits.ensures.others

pub returns-clause-some : goal.returns-clause-some
returns-clause-some c =
    let a = c.args in
    let f = pin_byte a.signals a.plain.now.cells a.code.now a.from in
    let end : c.loop-j.j ≡ a.count = omega (arith, c.loop-j-test.false, c.loop-j.auto.j-end) in
    read_all f c.loop-j.j c.loop-j.bits c.loop-j.invariant ∙ ap (λ (n : ℕ). pins_on (map f (range_with_len 0 n))) end
    ∙ ap pins_on (sym (pin_bytes_are a.signals a.plain.now.cells a.code.now a.from a.count))

pub returns-clause-whole : goal.returns-clause-whole
returns-clause-whole c =
    let a = c.args in
    let f = pin_byte a.signals a.plain.now.cells a.code.now a.from in
    let end : c.loop-j.j ≡ a.count = omega (arith, c.loop-j-test.false, c.loop-j.auto.j-end) in
    ap (list_any is_missing) (pin_bytes_are a.signals a.plain.now.cells a.code.now a.from a.count ∙ ap (λ (n : ℕ). map f (range_with_len 0 n)) (sym end)) ∙ c.loop-j.invariant.whole
