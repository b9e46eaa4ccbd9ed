use Rattle.std.proofs.Common.{◌≡◌, drop}
use Rattle.std.specs.Prelude.{fold}
use Rattle.ps_bench_report.specs.Scale.{shorter, unit_of}
use Rattle.ps_bench_report.proofs.scale.unit_of.Given as goal

abbrev pub invariant-loop-moment : goal.invariant-loop-moment
invariant-loop-moment l = fold shorter l.unit (drop l.moment-index l.moments) ≡ unit_of l.moments
