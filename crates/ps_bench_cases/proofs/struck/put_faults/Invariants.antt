use Rattle.std.proofs.Common.{◌≡◌, ◌++◌, drop}
use Rattle.ps_bench_cases.specs.Meant.{faults_in}
use Rattle.ps_bench_cases.proofs.struck.put_faults.Given as goal

-- the faults so far and those of what is left are those of all
abbrev pub invariant-loop-statement : goal.invariant-loop-statement
invariant-loop-statement l = (l.faults ++ faults_in (drop l.statement-index l.statements)) ≡ (l.fn.faults ++ faults_in l.statements)
