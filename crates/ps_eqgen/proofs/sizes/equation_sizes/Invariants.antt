use Rattle.std.proofs.Common.{◌≡◌, map, take}
use Rattle.std.specs.List.{range_with_len}
use Rattle.ps_model.specs.Network.{first_pin}
use Rattle.ps_eqgen.proofs.sizes.equation_sizes.Given as goal

-- the instances up to here have their first pins and kinds, and the signals up to here are counted
abbrev pub invariant-loop-i : goal.invariant-loop-i
invariant-loop-i l = record {
  first_pins : l.first_pins ≡ map (first_pin l.app) (range_with_len 0 l.i);
  kinds : l.kinds ≡ map (λ x. x.kind) (take l.i l.app.instances);
  behind : l.behind ≡ first_pin l.app l.i;
}
