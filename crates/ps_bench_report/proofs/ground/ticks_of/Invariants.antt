use Rattle.std.proofs.Common.{◌≡◌, take}
use Rattle.ps_bench_report.specs.Ground.{ticks_text}
use Rattle.ps_bench_report.proofs.ground.ticks_of.Given as goal

abbrev pub invariant-loop-scan : goal.invariant-loop-scan
invariant-loop-scan l = l.ticks ≡ ticks_text l.bottom (take l.scan-index l.scans)
