use Rattle.std.proofs.Common.{◌≡◌, ℕ, cond, false}
use Rattle.std.specs.Prelude.{nat_lt}
use Rattle.ps_model.specs.PinBits.{pin_of}
use Rattle.ps_model.specs.Scanning.{pins_under}
use Rattle.ps_machine.specs.Reading.{read_in}
use Rattle.ps_machine.proofs.pins.read_pins.Given as goal

abbrev pub invariant-loop-j : goal.invariant-loop-j
invariant-loop-j l = (k : ℕ) → pin_of l.bits k ≡ cond (nat_lt k l.j) (pins_under (read_in l.app l.signals l.k) l.kind l.args k) false
