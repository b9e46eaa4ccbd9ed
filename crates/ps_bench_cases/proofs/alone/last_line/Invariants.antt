use Rattle.std.proofs.Common.{◌≡◌, ℕ, drop, fold}
use Rattle.ps_bench_cases.specs.declared.case.Statement.{Statement}
use Rattle.ps_bench_cases.specs.Alone.{last_line}
use Rattle.ps_bench_cases.proofs.alone.last_line.Given as goal

-- the statements that are left
abbrev pub invariant-loop-statement : goal.invariant-loop-statement
invariant-loop-statement l =
    fold (λ (line : ℕ) (s : Statement). s.line) l.last (drop l.statement-index l.case.statements) ≡ last_line l.case
