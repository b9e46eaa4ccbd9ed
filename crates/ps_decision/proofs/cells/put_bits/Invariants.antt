use Rattle.std.proofs.Common.{◌≡◌, take}
use Rattle.std.specs.Prelude.{map}
use Rattle.ps_machine.specs.Bytes.{bit, replaced}
use Rattle.ps_decision.proofs.cells.put_bits.Given as goal

abbrev pub invariant-loop-i : goal.invariant-loop-i
invariant-loop-i l = l.cells ≡ replaced l.initial.cells l.at (map bit (take l.i l.values))
