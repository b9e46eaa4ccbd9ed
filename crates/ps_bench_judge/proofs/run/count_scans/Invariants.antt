use Rattle.std.proofs.Common.{◌≡◌, ◌≤◌, ◌+◌, length, drop}
use Rattle.std.specs.Prelude.{min}
use Rattle.ps_bench_cases.specs.Meant.{times_in}
use Rattle.ps_bench_judge.proofs.run.count_scans.Given as goal

-- the scans so far and those of what is left are those of all
abbrev pub invariant-loop-statement : goal.invariant-loop-statement
invariant-loop-statement l = record {
  small : l.count ≤ 4294967295;
  same : min (l.count + length (times_in (drop l.statement-index l.statements))) 4294967295 ≡ min (l.fn.before + length (times_in l.statements)) 4294967295;
}
