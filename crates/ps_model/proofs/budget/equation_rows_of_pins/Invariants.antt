use Rattle.std.proofs.Common.{◌≡◌, ◌*◌, ◌≤◌, take}
use Rattle.std.specs.Prelude.{sum_by}
use Rattle.ps_model.specs.Budgets.{equation_rows_at_pin}
use Rattle.ps_model.proofs.budget.equation_rows_of_pins.Given as goal

abbrev pub invariant-loop-j : goal.invariant-loop-j
invariant-loop-j l = record {
  counted : l.total ≡ sum_by equation_rows_at_pin (take l.j l.args);
  few : l.total ≤ 40000 * l.j;
}
