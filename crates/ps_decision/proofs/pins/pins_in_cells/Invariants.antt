use Rattle.ps_decision.specs.Cells.{pin_bytes}
use Rattle.ps_decision.proofs.ReadPins.{WasRead}
use Rattle.ps_decision.proofs.pins.pins_in_cells.Given as goal

abbrev pub invariant-loop-k : goal.invariant-loop-k
invariant-loop-k l = WasRead (pin_bytes l.count l.cells) l.k l.bits
