use Rattle.std.proofs.Common.{◌≡◌, drop}
use Rattle.ps_bench_cases.specs.Alone.{case_with}
use Rattle.ps_bench_cases.proofs.alone.case_with_line.Given as goal

-- no case before these has the line
abbrev pub invariant-loop-place : goal.invariant-loop-place
invariant-loop-place l = case_with l.line l.cases ≡ case_with l.line (drop l.place l.cases)
