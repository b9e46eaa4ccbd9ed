use Rattle.std.proofs.Common.{◌≡◌, ◌+◌, ◌-◌, ◌≤◌, length, ◌∙◌, arith}
use Rattle.ps_stackvm.specs.declared.layout.TheConstants.{SIGNALS_AT}
use Rattle.ps_stackvm.specs.Turn.{turn_of}
use Rattle.ps_stackvm.proofs.Heads.{turned_more, running_more}
use Rattle.ps_stackvm.proofs.turn.turns_left.Goals as goal

pub turns-preserved : goal.turns-preserved
turns-preserved c =
    let a = c.args in
    let f = turn_of a.signals a.instances a.code.now in
    let l = c.turns in
    let made = a.most - l.left in
    let next : a.most - (l.left - 1) ≡ made + 1 = omega arith in
    let room : SIGNALS_AT ≤ length l.cells = omega (arith, c.requires.room, l.auto.cells) in
    record {
      within = omega arith;
      cells = turned_more f made _ l.head.pc l.head.height l.cells a.cells.now next l.invariant.cells _ c.advance-head.ensures.cells;
      here = c.advance-head.ensures.runs c.if-head-2.false;
      running = running_more f made _ l.head.pc l.head.height l.cells a.cells.now next l.invariant.cells room l.invariant.here l.invariant.running;
    }

pub returns-then-head-2-clause-cells : goal.returns-then-head-2-clause-cells
returns-then-head-2-clause-cells c =
    let a = c.args in
    let l = c.turns in
    let next : a.most - (l.left - 1) ≡ (a.most - l.left) + 1 = omega arith in
    turned_more (turn_of a.signals a.instances a.code.now) (a.most - l.left) _ l.head.pc l.head.height l.cells a.cells.now next l.invariant.cells _
    (c.write.ensures ∙ c.advance-head.ensures.cells)

pub returns-then-head-2-clause-running : goal.returns-then-head-2-clause-running
returns-then-head-2-clause-running c =
    let a = c.args in
    let l = c.turns in
    let next : a.most - (l.left - 1) ≡ (a.most - l.left) + 1 = omega arith in
    let room : SIGNALS_AT ≤ length l.cells = omega (arith, c.requires.room, l.auto.cells) in
    running_more (turn_of a.signals a.instances a.code.now) (a.most - l.left) _ l.head.pc l.head.height l.cells a.cells.now next l.invariant.cells room
    l.invariant.here l.invariant.running
