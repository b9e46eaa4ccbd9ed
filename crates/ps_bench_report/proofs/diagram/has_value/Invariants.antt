use Rattle.std.proofs.Common.{◌≡◌, drop}
use Rattle.ps_bench_report.specs.Sheets.{has_value}
use Rattle.ps_bench_report.proofs.diagram.has_value.Given as goal

abbrev pub invariant-loop-moment : goal.invariant-loop-moment
invariant-loop-moment l = has_value (drop l.moment-index l.moments) l.number l.value ≡ has_value l.moments l.number l.value
