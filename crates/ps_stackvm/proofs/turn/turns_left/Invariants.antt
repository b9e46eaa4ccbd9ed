use Rattle.std.proofs.Common.{◌≡◌, ℕ, ◌-◌, ◌<◌, ◌≤◌}
use Rattle.ps_machine.specs.Machines.{turned}
use Rattle.ps_stackvm.specs.Cells.{progress_of, with_head}
use Rattle.ps_stackvm.specs.Turn.{turn_of}
use Rattle.ps_stackvm.proofs.turn.turns_left.Given as goal

-- turns were made, each of a running scan, which runs still; the head of the cells is kept apart
abbrev pub invariant-turns : goal.invariant-turns
invariant-turns l = record {
  within : l.left ≤ l.most;
  cells : with_head l.head.pc l.head.height l.cells ≡ turned (turn_of l.signals l.instances l.code) (l.most - l.left) l.initial.cells;
  here : progress_of l.cells ≡ 0;
  running : (j : ℕ) → j < l.most - l.left → progress_of (turned (turn_of l.signals l.instances l.code) j l.initial.cells) ≡ 0;
}

abbrev pub decreases-turns : goal.decreases-turns
decreases-turns l = l.left
