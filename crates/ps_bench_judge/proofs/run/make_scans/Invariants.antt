use Rattle.ps_bench_cases.specs.Meant.{times_of}
use Rattle.ps_bench_judge.proofs.Turns.{ScansLeft, times_left}
use Rattle.ps_bench_judge.proofs.run.make_scans.Given as goal

abbrev pub invariant-loop-k : goal.invariant-loop-k
invariant-loop-k l =
    ScansLeft l.fn.app l.fn.line (times_of l.fn.pace) l.fn.rig l.fn.judge (times_left l.fn.pace l.k) l.rig l.judge
