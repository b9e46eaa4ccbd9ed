use Rattle.std.proofs.Common.{◌≡◌, ◌+◌, take, drop, fold, length}
use Rattle.ps_bench_cases.specs.declared.point.Point.{Point}
use Rattle.ps_bench_cases.specs.Expanded.{next_point, statements_text}
use Rattle.ps_bench_cases.specs.Rooms.{Counts}
use Rattle.ps_bench_cases.proofs.room.Room.behind_statements.Given as goal

-- what is left after the statements so far
abbrev pub invariant-loop-statement : goal.invariant-loop-statement
invariant-loop-statement l = record {
  left : (p : Point) → p.base ≡ l.base.time → Counts l.base.inputs p l.fn.self →
      l.room.left + length (statements_text p l.statements) ≡
      l.fn.self.left + length (statements_text (fold next_point p (take l.statement-index l.statements)) (drop l.statement-index l.statements));
  counts : (p : Point) → p.base ≡ l.base.time → Counts l.base.inputs p l.fn.self →
      Counts l.base.inputs (fold next_point p (take l.statement-index l.statements)) l.room;
}
