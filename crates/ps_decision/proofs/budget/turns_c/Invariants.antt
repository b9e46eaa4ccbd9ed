use Rattle.std.proofs.Common.{◌≡◌, ◌+◌, take}
use Rattle.std.specs.Prelude.{sum_by}
use Rattle.ps_decision.specs.Budget.{count_of_step}
use Rattle.ps_decision.proofs.budget.turns_c.Given as goal

abbrev pub invariant-loop-k : goal.invariant-loop-k
invariant-loop-k l = l.turns ≡ sum_by (count_of_step l.app) (take l.k l.app.steps) + 1
