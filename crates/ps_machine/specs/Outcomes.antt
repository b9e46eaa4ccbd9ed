-- What a channel that has ended gives of its scan.
use Rattle.std.specs.Prelude.{◌≡◌, List, ℕ, length, Option, Some, None}
use Rattle.ps_model.specs.declared.channel.Progress.{Progress}
use Rattle.ps_model.specs.declared.channel.Progress.TheVariants.{Running, Done, Trapped}
use Rattle.ps_model.specs.declared.report.Report.{Report}
use Rattle.ps_machine.specs.Machines.{Machine}
use Rattle.ps_machine.specs.declared.seat.Failing.{Failing}
use Rattle.ps_machine.specs.declared.seat.Failing.TheVariants.{Trap, Stuck, NoReport}

-- a report, or why there is none
pub data Outcome : Type 0 where
  gives : Report → Outcome
  lacks : Failing → Outcome

-- A trap, a budget that is spent while Running, and cells that hold no Boolean report are looked for in this order.
abbrev pub outcome_by : Progress → Option Report → Outcome
outcome_by (Trapped n) report = lacks (Trap n)
outcome_by Running report = lacks Stuck
outcome_by Done None = lacks NoReport
outcome_by Done (Some report) = gives report

-- the outcome of a channel with these cells
abbrev pub outcome : Machine → (cells : List ℕ) → Outcome
outcome m cells = outcome_by (m.progress cells) (m.report cells)

-- every report that the cells of a machine can hold is of so many outputs and instances
abbrev pub GivesSized : Machine → (outputs instances : ℕ) → Type 0
GivesSized m outputs instances = (cells : List ℕ) (r : Report) → m.report cells ≡ Some r → (length r.outs ≡ outputs) × (length r.diags ≡ instances)
