use Rattle.std.proofs.Common.{◌≡◌, false, map}
use Rattle.std.specs.List.{list_any, range_with_len}
use Rattle.ps_eqvm.specs.Acting.{is_odd}
use Rattle.ps_eqvm.specs.Pins.{pin_byte}
use Rattle.ps_eqvm.proofs.block.has_odd.Given as goal

abbrev pub invariant-loop-j : goal.invariant-loop-j
invariant-loop-j l = list_any is_odd (map (pin_byte l.signals l.plain.cells l.code l.from) (range_with_len 0 l.j)) ≡ false
