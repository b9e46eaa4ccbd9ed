use Rattle.ps_eqvm.specs.Pins.{ReadSoFar, pin_byte}
use Rattle.ps_eqvm.proofs.block.ones_of.Given as goal

abbrev pub invariant-loop-j : goal.invariant-loop-j
invariant-loop-j l = ReadSoFar (pin_byte l.signals l.plain.cells l.code l.from) l.j l.bits
