use Rattle.std.proofs.Common.{◌≡◌, take}
use Rattle.std.specs.Prelude.{sum_by}
use Rattle.ps_decision.specs.Budget.{count_at_pin}
use Rattle.ps_decision.proofs.budget.count_of_pins.Given as goal

abbrev pub invariant-loop-j : goal.invariant-loop-j
invariant-loop-j l = l.total ≡ sum_by count_at_pin (take l.j l.args)
