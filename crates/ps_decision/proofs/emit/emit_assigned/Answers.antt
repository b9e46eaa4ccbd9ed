use Rattle.std.proofs.Common.{arith}
use Rattle.ps_model.specs.Exprs.{formula}
use Rattle.ps_decision.proofs.WrittenRows.{assigned_written}
use Rattle.ps_decision.proofs.emit.emit_assigned.Goals as goal

pub returns : goal.returns
returns c =
    assigned_written c.args.code.now.items c.args.target (formula c.args.e.now) c.behind-yes_at.result _ c.behind-yes_at.ensures (omega arith)
    c.emit_value.new.code.items c.write.new.code.items c.write-2.new.code.items c.in_ok-emit_value.ensures c.in_ok-write.ensures c.in_ok-write-2.ensures
