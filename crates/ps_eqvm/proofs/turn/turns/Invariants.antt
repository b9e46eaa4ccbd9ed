use Rattle.std.proofs.Common.{◌≡◌, ℕ, ◌<◌}
use Rattle.ps_machine.specs.Machines.{turned}
use Rattle.ps_eqvm.specs.Plain.{IsSized}
use Rattle.ps_eqvm.specs.Turn.{turn_plain}
use Rattle.ps_eqvm.proofs.turn.turns.Given as goal

-- so many turns were made, each of a Running scan
abbrev pub invariant-loop-count : goal.invariant-loop-count
invariant-loop-count l = record {
  sized : IsSized l.signals l.instances l.plain;
  cells : l.plain ≡ turned (turn_plain l.signals l.instances l.code) l.count l.initial.plain;
  running : (j : ℕ) → j < l.count → (turned (turn_plain l.signals l.instances l.code) j l.initial.plain).progress ≡ 0;
}
