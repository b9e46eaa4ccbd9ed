use Rattle.std.proofs.Common.{◌≤◌, length, ◌∙◌, arith}
use Rattle.ps_stackvm.specs.declared.layout.TheConstants.{SIGNALS_AT}
use Rattle.ps_stackvm.proofs.Heads.{store_empty, store_high, store_odd, store_done}
use Rattle.ps_stackvm.proofs.stack.store.Goals.{then-height-eq0-via-then-height-eq0, then-height-eq0-via-else-height-eq0+then-height}
use Rattle.ps_stackvm.proofs.stack.store.Goals as goal

pub returns-then-height-eq0-clause-cells : goal.returns-then-height-eq0-clause-cells
returns-then-height-eq0-clause-cells c =
    let a = c.args in
    let room : SIGNALS_AT ≤ length a.cells.now = omega (arith, c.requires.room) in
    c.stop-then-height-eq0.ensures.cells
    ∙ elim c.then-height-eq0.branch [
      | then-height-eq0-via-then-height-eq0 w ↦
          store_empty a.head.pc a.head.height a.cells.now room a.signals a.c a.next c.if-c-signals.false w.if-height-eq0.true
      | then-height-eq0-via-else-height-eq0+then-height w ↦
          store_high a.head.pc a.head.height a.cells.now room a.signals a.c a.next c.if-c-signals.false w.if-height.true
    ]

pub returns-then-byte-gt1-clause-cells : goal.returns-then-byte-gt1-clause-cells
returns-then-byte-gt1-clause-cells c =
    let a = c.args in
    let room : SIGNALS_AT ≤ length a.cells.now = omega (arith, c.requires.room) in
    c.stop-then-byte-gt1.ensures.cells
    ∙ store_odd a.head.pc a.head.height a.cells.now room a.signals a.c a.next c.if-c-signals.false c.if-height-eq0.false c.if-height.false c.if-byte-gt1.true

pub returns-clause-cells : goal.returns-clause-cells
returns-clause-cells c =
    let a = c.args in
    let room : SIGNALS_AT ≤ length a.cells.now = omega (arith, c.requires.room) in
    store_done a.head.pc a.head.height a.cells.now room a.signals a.c a.next c.if-c-signals.false c.if-height-eq0.false c.if-height.false c.if-byte-gt1.false
