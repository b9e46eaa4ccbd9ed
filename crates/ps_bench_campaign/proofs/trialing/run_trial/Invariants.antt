use Rattle.std.proofs.Common.{◌≡◌, ◌≤◌, [], ◌∷◌, length, drop}
use Rattle.ps_model.specs.Network.{instance_count}
use Rattle.ps_bench_campaign.proofs.Going.{Goes, at_first, showing}
use Rattle.ps_bench_campaign.proofs.trialing.run_trial.Given as goal

abbrev pub invariant-loop-place : goal.invariant-loop-place
invariant-loop-place l = record {
  goes : Goes l.app (l.fault ∷ []) l.struck (showing l.app (l.fault ∷ []) l.struck 0 l.steps (at_first l.fn.world)) l.number (drop l.place l.steps) l.world;
  few : l.number ≤ l.place;
  within : l.place ≤ length l.steps;
  outputs : length l.report.outs ≡ length l.app.outputs;
  diagnoses : length l.report.diags ≡ instance_count l.app;
}
