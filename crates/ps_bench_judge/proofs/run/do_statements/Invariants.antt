use Rattle.std.proofs.Common.{drop}
use Rattle.ps_bench_judge.proofs.Turns.{StatementsLeft}
use Rattle.ps_bench_judge.proofs.run.do_statements.Given as goal

abbrev pub invariant-loop-statement : goal.invariant-loop-statement
invariant-loop-statement l =
    StatementsLeft l.fn.app l.statements l.fn.rig l.fn.judge (drop l.statement-index l.statements) l.rig l.judge
