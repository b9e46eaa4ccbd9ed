use Rattle.std.proofs.Common.{◌++◌, length, map}
use Rattle.ps_model.specs.Exprs.{formula, operands}
use Rattle.ps_decision.specs.Code.{all_rows, any_rows}
use Rattle.ps_decision.specs.Rows.{bytes_of}
use Rattle.ps_decision.proofs.WrittenRows.{AllWritten, AnyWritten}
use Rattle.ps_decision.proofs.emit.+expr.Given as goal

abbrev pub invariant-emit_all-loop-place : goal.invariant-emit_all-loop-place
invariant-emit_all-loop-place l =
    AllWritten formula l.all (l.initial.code.items ++ bytes_of (all_rows (operands (map formula l.all)) (length l.initial.code.items) l.yes_at l.no_at)) l.yes_at l.no_at l.code.items l.place

abbrev pub invariant-emit_any-loop-place : goal.invariant-emit_any-loop-place
invariant-emit_any-loop-place l =
    AnyWritten formula l.all (l.initial.code.items ++ bytes_of (any_rows (operands (map formula l.all)) (length l.initial.code.items) l.yes_at l.no_at)) l.yes_at l.no_at l.code.items l.place
