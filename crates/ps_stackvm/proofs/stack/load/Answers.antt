use Rattle.std.proofs.Common.{◌≤◌, length, ◌∙◌, arith}
use Rattle.ps_stackvm.specs.declared.layout.TheConstants.{SIGNALS_AT}
use Rattle.ps_stackvm.proofs.Heads.{load_full, load_odd, load_done}
use Rattle.ps_stackvm.proofs.stack.load.Goals as goal

pub returns-then-head-clause-cells : goal.returns-then-head-clause-cells
returns-then-head-clause-cells c =
    let a = c.args in
    let room : SIGNALS_AT ≤ length a.cells.now = omega (arith, c.requires.room) in
    c.stop-then-head.ensures.cells
    ∙ load_full a.head.pc a.head.height a.cells.now room a.signals a.c a.next c.if-c-signals.false c.if-head.true

pub returns-then-byte-gt1-clause-cells : goal.returns-then-byte-gt1-clause-cells
returns-then-byte-gt1-clause-cells c =
    let a = c.args in
    let room : SIGNALS_AT ≤ length a.cells.now = omega (arith, c.requires.room) in
    c.stop-then-byte-gt1.ensures.cells
    ∙ load_odd a.head.pc a.head.height a.cells.now room a.signals a.c a.next c.if-c-signals.false c.if-head.false c.if-byte-gt1.true

pub returns-clause-cells : goal.returns-clause-cells
returns-clause-cells c =
    let a = c.args in
    let room : SIGNALS_AT ≤ length a.cells.now = omega (arith, c.requires.room) in
    load_done a.head.pc a.head.height a.cells.now room a.signals a.c a.next c.if-c-signals.false c.if-head.false c.if-byte-gt1.false
