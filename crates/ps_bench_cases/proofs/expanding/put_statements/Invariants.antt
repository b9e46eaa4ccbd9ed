use Rattle.std.proofs.Common.{◌≡◌, length, drop, fold}
use Rattle.ps_bench_cases.specs.Expanded.{next_point, statements_text}
use Rattle.ps_bench_cases.proofs.Pieces.{LeftOf}
use Rattle.ps_bench_cases.proofs.expanding.put_statements.Given as goal

-- the statements that are left
abbrev pub invariant-loop-statement : goal.invariant-loop-statement
invariant-loop-statement g l = record {
  point : fold next_point l.point (drop l.statement-index l.statements) ≡ fold next_point l.fn.point l.statements;
  size : length l.point.ins ≡ length l.fn.point.ins;
  base : l.point.base ≡ l.fn.point.base;
  left : LeftOf g.S.Sink.tells g.S.Sink.taken g.S.Sink.faults (statements_text l.fn.point l.statements) (statements_text l.point (drop l.statement-index l.statements)) l.fn.out l.out;
}
