use Rattle.std.proofs.Common.{◌≡◌, ℕ, ◌<◌, length}
use Rattle.ps_demand.specs.Demand.{demand_read}
use Rattle.ps_demand.specs.Passes.{kept_for}
use Rattle.ps_demand.proofs.slimming.first_demands.Given as goal

abbrev pub invariant-loop-s : goal.invariant-loop-s
invariant-loop-s l = record {
  long : length l.rows.items ≡ l.s;
  each : (s : ℕ) → s < l.s → kept_for l.rows.items s ≡ demand_read l.app 0 s;
}
