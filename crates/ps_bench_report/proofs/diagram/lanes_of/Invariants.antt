use Rattle.std.proofs.Common.{◌≡◌, drop}
use Rattle.ps_bench_report.specs.Sheets.{lanes_from, lanes_of}
use Rattle.ps_bench_report.proofs.diagram.lanes_of.Given as goal

abbrev pub invariant-loop-number : goal.invariant-loop-number
invariant-loop-number l =
    lanes_from l.recording l.lanes.items l.number (drop l.number l.names) ≡ lanes_of l.recording
