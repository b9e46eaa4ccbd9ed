use Rattle.std.proofs.Common.{◌∙◌, arith}
use Rattle.ps_decision.specs.Cells.{pin_bytes}
use Rattle.ps_decision.proofs.ReadPins.{pin_count, next_byte, read_more, odd_read, all_read}
use Rattle.ps_decision.proofs.pins.pins_in_cells.Goals as goal

pub returns-then-byte-gt1-clause-none : goal.returns-then-byte-gt1-clause-none
returns-then-byte-gt1-clause-none c =
    let n = c.args.count in
    let cells = c.args.cells.now in
    let k = c.loop-k.k in
    odd_read (pin_bytes n cells) k _ (omega (arith, pin_count n cells c.requires.few c.requires.room, c.loop-k-test.true))
    (next_byte n k cells c.requires.few c.requires.room c.loop-k-test.true) c.if-byte-gt1.true

pub loop-k-preserved : goal.loop-k-preserved
loop-k-preserved c =
    let n = c.args.count in
    let cells = c.args.cells.now in
    let k = c.loop-k.k in
    read_more (pin_bytes n cells) k c.loop-k.bits c.from.result (omega (arith, pin_count n cells c.requires.few c.requires.room, c.loop-k-test.true))
    (c.from.ensures ∙ next_byte n k cells c.requires.few c.requires.room c.loop-k-test.true) (omega (arith, c.from.ensures, c.if-byte-gt1.false)) c.loop-k.invariant

pub returns-clause-some : goal.returns-clause-some
returns-clause-some c =
    let n = c.args.count in
    let cells = c.args.cells.now in
    (all_read (pin_bytes n cells) c.loop-k.k c.loop-k.bits (omega (arith, pin_count n cells c.requires.few c.requires.room, c.loop-k-test.false, c.loop-k.auto.k-end)) c.loop-k.invariant).1
