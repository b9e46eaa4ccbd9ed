use Rattle.std.proofs.Common.{◌∙◌}
use Rattle.ps_stackvm.proofs.Heads.{const_full, const_odd, const_done}
use Rattle.ps_stackvm.proofs.stack.constant.Goals as goal

pub returns-then-head-clause-cells : goal.returns-then-head-clause-cells
returns-then-head-clause-cells c =
    let a = c.args in
    c.stop.ensures.cells ∙ const_full a.head.pc a.head.height a.cells.now c.requires.room a.byte a.next c.if-head.true

pub returns-then-byte-gt1-clause-cells : goal.returns-then-byte-gt1-clause-cells
returns-then-byte-gt1-clause-cells c =
    let a = c.args in
    c.stop-then-byte-gt1.ensures.cells
    ∙ const_odd a.head.pc a.head.height a.cells.now c.requires.room a.byte a.next c.if-head.false c.if-byte-gt1.true

pub returns-clause-cells : goal.returns-clause-cells
returns-clause-cells c =
    let a = c.args in
    const_done a.head.pc a.head.height a.cells.now c.requires.room a.byte a.next c.if-head.false c.if-byte-gt1.false
