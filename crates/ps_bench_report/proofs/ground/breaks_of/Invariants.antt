use Rattle.std.proofs.Common.{◌≡◌, take}
use Rattle.std.specs.List.{flat_map}
use Rattle.ps_bench_report.specs.Ground.{break_text}
use Rattle.ps_bench_report.proofs.ground.breaks_of.Given as goal

abbrev pub invariant-loop-scan : goal.invariant-loop-scan
invariant-loop-scan l = l.breaks ≡ flat_map (break_text l.bottom) (take l.scan-index l.scans)
