use Rattle.std.proofs.Common.{◌≡◌, ◌+◌, ◌*◌, ◌≤◌, take}
use Rattle.std.specs.Prelude.{sum_by}
use Rattle.ps_model.specs.Budgets.{equation_rows_of_step}
use Rattle.ps_model.proofs.app.App.turns_b.Given as goal

abbrev pub invariant-loop-k : goal.invariant-loop-k
invariant-loop-k l = record {
  counted : l.turns ≡ sum_by (equation_rows_of_step l.self) (take l.k l.self.steps) + 1;
  few : l.turns ≤ 520001 * l.k + 1;
}
