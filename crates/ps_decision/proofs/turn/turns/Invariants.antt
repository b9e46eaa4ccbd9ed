use Rattle.std.proofs.Common.{◌≡◌, ℕ, ◌<◌}
use Rattle.ps_machine.specs.Machines.{turned}
use Rattle.ps_decision.specs.Cells.{progress_of}
use Rattle.ps_decision.specs.Turn.{turn_of}
use Rattle.ps_decision.proofs.turn.turns.Given as goal

-- so many turns were made, each of a running scan
abbrev pub invariant-loop-made : goal.invariant-loop-made
invariant-loop-made l = record {
  cells : l.cells ≡ turned (turn_of l.signals l.instances l.code) l.made l.initial.cells;
  running : (j : ℕ) → j < l.made → progress_of (turned (turn_of l.signals l.instances l.code) j l.initial.cells) ≡ 0;
}
