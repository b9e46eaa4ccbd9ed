use Rattle.std.proofs.Common.{◌≡◌, ◌*◌, ◌≤◌, length, take}
use Rattle.std.specs.Prelude.{sum_by}
use Rattle.ps_decision.specs.Budget.{count_of_step}
use Rattle.ps_decision.specs.Code.{step_rows, in_order}
use Rattle.ps_decision.specs.Rows.{bytes_of}
use Rattle.ps_decision.proofs.image.emit_application.Given as goal

abbrev pub invariant-loop-k : goal.invariant-loop-k
invariant-loop-k l = record {
  written : l.code.items ≡ bytes_of (in_order (step_rows l.app) (take l.k l.app.steps) 0);
  few : length l.code.items ≤ 11 * sum_by (count_of_step l.app) (take l.k l.app.steps);
}
