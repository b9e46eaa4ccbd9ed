use Rattle.std.proofs.Common.{◌+◌, ◌^◌, ◌<◌, sym, ap, ◌∙◌, rules}
use Rattle.ps_stackvm.specs.Cells.{with_head}
use Rattle.ps_stackvm.specs.Turn.{after}
use Rattle.ps_stackvm.proofs.Heads.{turn_made, turn_stopped}
use Rattle.ps_stackvm.proofs.turn.advance.Goals as goal

pub returns-in-Ok-clause-cells : goal.returns-in-Ok-clause-cells
returns-in-Ok-clause-cells c =
    let a = c.args in
    let i = c.in-Ok.i in
    let fits : a.head.pc < 2 ^ 32 = search rules in
    c.carry_out.ensures.cells
    ∙ ap (λ n. after a.signals a.instances i (a.head.pc + n) (with_head a.head.pc a.head.height a.cells.now)) c.size.ensures
    ∙ turn_made a.signals a.instances a.head.pc a.head.height a.code.now a.cells.now fits i (sym c.fetch.ensures ∙ c.in-Ok.is)

pub returns-in-Err-clause-cells : goal.returns-in-Err-clause-cells
returns-in-Err-clause-cells c =
    let a = c.args in
    let fits : a.head.pc < 2 ^ 32 = search rules in
    c.stop.ensures.cells
    ∙ turn_stopped a.signals a.instances a.head.pc a.head.height a.code.now a.cells.now fits c.in-Err.reason (sym c.fetch.ensures ∙ c.in-Err.is)
