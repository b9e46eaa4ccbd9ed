use Rattle.std.proofs.Common.{◌≡◌, map, take}
use Rattle.ps_bench_judge.specs.Moments.{moment_of}
use Rattle.ps_bench_judge.specs.Named.{value_in}
use Rattle.ps_bench_report.proofs.recording.values_in.Given as goal

abbrev pub invariant-loop-name : goal.invariant-loop-name
invariant-loop-name l = l.values.items ≡ map (value_in l.app (moment_of l.seen)) (take l.name-index l.names)
