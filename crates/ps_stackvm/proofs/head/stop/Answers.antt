use Rattle.std.proofs.Common.{sym, ap, ◌∙◌}
use Rattle.ps_stackvm.specs.Cells.{with_head}
use Rattle.ps_stackvm.proofs.Heads.{trapped_is}
use Rattle.ps_stackvm.proofs.head.stop.Goals as goal

pub returns-clause-cells : goal.returns-clause-cells
returns-clause-cells c =
    let head = c.args.head in
    ap (with_head head.pc head.height) c.trap.ensures ∙ sym (trapped_is head.pc head.height c.args.cells.now c.requires c.args.reason)
