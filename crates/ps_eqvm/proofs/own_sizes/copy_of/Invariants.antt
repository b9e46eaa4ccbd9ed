use Rattle.std.proofs.Common.{◌≡◌, take}
use Rattle.ps_eqvm.proofs.own_sizes.copy_of.Given as goal

-- the instances up to here are copied
abbrev pub invariant-loop-i : goal.invariant-loop-i
invariant-loop-i l = record {
  first_pins : l.first_pins ≡ take l.i l.sizes.first_pins;
  kinds : l.kinds ≡ take l.i l.sizes.kinds;
}
