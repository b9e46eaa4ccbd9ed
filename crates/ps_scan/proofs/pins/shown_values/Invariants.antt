use Rattle.std.proofs.Common.{◌≡◌, take, map, length}
use Rattle.std.specs.List.{range_with_len}
use Rattle.ps_model.specs.PinBits.{pin_of}
use Rattle.ps_scan.proofs.pins.shown_values.Given as goal

abbrev pub invariant-loop-j : goal.invariant-loop-j
invariant-loop-j l = record {
  first : take l.j l.values ≡ map (pin_of l.outs.safe) (range_with_len 0 l.j);
  room : length l.values ≡ 11;
}
