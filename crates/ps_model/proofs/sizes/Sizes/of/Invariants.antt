use Rattle.std.proofs.Common.{◌≡◌, map, take}
use Rattle.std.specs.List.{range_with_len}
use Rattle.ps_model.specs.Network.{first_pin}
use Rattle.ps_model.proofs.sizes.Sizes.of.Given as goal

abbrev pub invariant-loop-i : goal.invariant-loop-i
invariant-loop-i l = record {
  first_pins : l.first_pins ≡ map (first_pin l.app) (range_with_len 0 l.i);
  kinds : l.kinds ≡ map (λ x. x.kind) (take l.i l.app.instances);
}
