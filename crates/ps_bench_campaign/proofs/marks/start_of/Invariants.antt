use Rattle.std.proofs.Common.{◌≤◌, ◌-◌}
use Rattle.ps_bench_campaign.specs.Marks.{IsMark}
use Rattle.ps_bench_campaign.proofs.marks.start_of.Given as goal

abbrev pub invariant-loop-mark : goal.invariant-loop-mark
invariant-loop-mark l = record {
  mark : IsMark l._app l._steps l.start;
  before : l.start.scans ≤ l.scan - 1;
}
