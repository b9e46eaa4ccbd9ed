use Rattle.std.proofs.Common.{◌≡◌, ◌≤◌, length, drop}
use Rattle.std.specs.List.{All}
use Rattle.ps_model.specs.Network.{instance_count}
use Rattle.ps_bench_campaign.specs.Marks.{IsMark, IsMoment}
use Rattle.ps_bench_campaign.proofs.marks.mark_later.Given as goal

abbrev pub invariant-loop-place : goal.invariant-loop-place
invariant-loop-place l = record {
  moment : IsMoment l.app l.steps (drop l.place l.steps) l.scans l.world;
  few : l.scans ≤ l.place;
  later : All (IsMark l.app l.steps) l.later.items;
  outputs : length l.report.outs ≡ length l.app.outputs;
  diagnoses : length l.report.diags ≡ instance_count l.app;
}
