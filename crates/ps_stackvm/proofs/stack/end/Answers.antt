use Rattle.ps_stackvm.proofs.Heads.{end_done}
use Rattle.ps_stackvm.proofs.stack.end.Goals as goal

pub returns-clause-cells : goal.returns-clause-cells
returns-clause-cells c = end_done c.args.head.pc c.args.head.height c.args.cells.now c.requires.room c.args.next
