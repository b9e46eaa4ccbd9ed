use Rattle.std.proofs.Common.{◌≡◌, take}
use Rattle.ps_bench_report.specs.Ground.{bases_text}
use Rattle.ps_bench_report.proofs.ground.bases_of.Given as goal

abbrev pub invariant-loop-lane : goal.invariant-loop-lane
invariant-loop-lane l = l.bases ≡ bases_text l.end (take l.lane-index l.lane-items)
