-- The budget of channel C: how many rows its code has (profile). A turn does one row, and a scan does each at most
-- once.
use Rattle.std.specs.Prelude.{ℕ, ◌+◌, take, sum_by}
use Rattle.ps_model.specs.Formula.{Formula, Formulas, signal, all_of, any_of, no_operand, operand}
use Rattle.ps_model.specs.Action.{Actual, Action, wired, assigns, calls}
use Rattle.ps_model.specs.Budgets.{boolean_count}
use Rattle.ps_model.specs.Network.{Network, kind_at}

-- each signal of a value is decided in a row
abbrev mutual
  pub decisions : Formula → ℕ
  decisions (signal s) = 1
  decisions (all_of es) = decisions_below es
  decisions (any_of es) = decisions_below es

  -- the rows of operands
  pub decisions_below : Formulas → ℕ
  decisions_below no_operand = 0
  decisions_below (operand e es) = decisions e + decisions_below es

-- a value and two rows that set a pin cell, or one row for all else
abbrev pub count_at_pin : Actual → ℕ
count_at_pin (wired e) = decisions e + 2
count_at_pin _ = 1

-- a value and two rows that set its target, or the Boolean pins and the call
abbrev pub count_of_step : Network → Action → ℕ
count_of_step net (assigns t e) = decisions e + 2
count_of_step net (calls i args) = sum_by count_at_pin (take (boolean_count (kind_at net i)) args) + 1

-- all rows, and the one that ends the scan
abbrev pub turns_c : Network → ℕ
turns_c net = sum_by (count_of_step net) net.steps + 1
