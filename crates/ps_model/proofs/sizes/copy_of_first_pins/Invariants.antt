use Rattle.std.proofs.Common.{◌≡◌, take}
use Rattle.ps_model.proofs.sizes.copy_of_first_pins.Given as goal

abbrev pub invariant-loop-i : goal.invariant-loop-i
invariant-loop-i l = l.copy ≡ take l.i l.first_pins
