use Rattle.std.proofs.Common.{◌-◌, length, drop, refl, arith}
use Rattle.ps_stackvm.proofs.Popping.{on_top, odd_found, none_found, pins_found}
use Rattle.ps_stackvm.proofs.pins.few_pins.Goals as goal

pub returns-then-number-ne0-clause-none : goal.returns-then-number-ne0-clause-none
returns-then-number-ne0-clause-none c =
    let bytes = c.args.bytes.now in
    let n = c.args.count in
    odd_found (drop (length bytes - n) bytes) _
    (on_top bytes c.in-Some.last.now n c.requires.long c.requires.some c.requires.few (λ i. omega (arith, c.type_inv.bytes i)) c.in-Some.ensures.cases.1.same
    c.from_le_bytes.result _ c.from.result c.from_le_bytes.ensures c.from.ensures refl)
    c.if-number-ne0.true

pub returns-clause-some : goal.returns-clause-some
returns-clause-some c =
    let bytes = c.args.bytes.now in
    let n = c.args.count in
    pins_found (drop (length bytes - n) bytes) _ _
    (on_top bytes c.in-Some.last.now n c.requires.long c.requires.some c.requires.few (λ i. omega (arith, c.type_inv.bytes i)) c.in-Some.ensures.cases.1.same
    c.from_le_bytes.result _ c.from.result c.from_le_bytes.ensures c.from.ensures refl)
    c.if-number-ne0.false refl

pub returns-clause-all : goal.returns-clause-all
returns-clause-all c =
    let bytes = c.args.bytes.now in
    let n = c.args.count in
    none_found (drop (length bytes - n) bytes) _
    (on_top bytes c.in-Some.last.now n c.requires.long c.requires.some c.requires.few (λ i. omega (arith, c.type_inv.bytes i)) c.in-Some.ensures.cases.1.same
    c.from_le_bytes.result _ c.from.result c.from_le_bytes.ensures c.from.ensures refl)
    c.if-number-ne0.false
