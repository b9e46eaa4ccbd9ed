use Rattle.std.proofs.Common.{sym, ap, ◌∙◌}
use Rattle.ps_stackvm.specs.Cells.{with_head}
use Rattle.ps_stackvm.specs.Turn.{after}
use Rattle.ps_stackvm.proofs.turn.carry_out.Goals as goal

pub returns-in-Call-clause-cells : goal.returns-in-Call-clause-cells
returns-in-Call-clause-cells c =
    let a = c.args in
    let i = c.in-Call in
    c.step.ensures.cells
    ∙ ap (λ j. after a.signals a.instances j a.next (with_head a.head.pc a.head.height a.cells.now)) (sym i.is)
