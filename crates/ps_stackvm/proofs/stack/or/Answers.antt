use Rattle.std.proofs.Common.{◌∙◌}
use Rattle.std.specs.Prelude.{bit_or}
use Rattle.ps_stackvm.proofs.Heads.{join_low, join_high, join_odd_top, join_odd_second, join_done}
use Rattle.ps_stackvm.proofs.stack.or.Goals.{then-height-lt2-via-then-height-lt2, then-height-lt2-via-else-height-lt2+then-height, then-top-gt1-via-then-top-gt1, then-top-gt1-via-else-top-gt1+then-second-gt1}
use Rattle.ps_stackvm.proofs.stack.or.Goals as goal

pub returns-then-height-lt2-clause-cells : goal.returns-then-height-lt2-clause-cells
returns-then-height-lt2-clause-cells c =
    let a = c.args in
    c.stop.ensures.cells
    ∙ elim c.then-height-lt2.branch [
      | then-height-lt2-via-then-height-lt2 w ↦ join_low a.head.pc a.head.height a.cells.now c.requires.room bit_or a.next w.if-height-lt2.true
      | then-height-lt2-via-else-height-lt2+then-height w ↦
          join_high a.head.pc a.head.height a.cells.now c.requires.room bit_or a.next w.if-height.true
    ]

pub returns-then-top-gt1-clause-cells : goal.returns-then-top-gt1-clause-cells
returns-then-top-gt1-clause-cells c =
    let a = c.args in
    c.stop-then-top-gt1.ensures.cells
    ∙ elim c.then-top-gt1.branch [
      | then-top-gt1-via-then-top-gt1 w ↦
          join_odd_top a.head.pc a.head.height a.cells.now c.requires.room bit_or a.next c.if-height-lt2.false c.if-height.false w.if-top-gt1.true
      | then-top-gt1-via-else-top-gt1+then-second-gt1 w ↦
          join_odd_second a.head.pc a.head.height a.cells.now c.requires.room bit_or a.next c.if-height-lt2.false c.if-height.false w.if-second-gt1.true
    ]

pub returns-clause-cells : goal.returns-clause-cells
returns-clause-cells c =
    let a = c.args in
    join_done a.head.pc a.head.height a.cells.now c.requires.room bit_or a.next c.if-height-lt2.false c.if-height.false c.if-top-gt1.false c.if-second-gt1.false
