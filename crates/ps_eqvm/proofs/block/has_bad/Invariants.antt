use Rattle.std.proofs.Common.{◌≡◌, false, map}
use Rattle.std.specs.List.{list_any, range_with_len}
use Rattle.ps_eqvm.specs.Acting.{is_missing}
use Rattle.ps_eqvm.specs.Pins.{pin_byte}
use Rattle.ps_eqvm.proofs.block.has_bad.Given as goal

abbrev pub invariant-loop-j : goal.invariant-loop-j
invariant-loop-j l = list_any is_missing (map (pin_byte l.signals l.plain.cells l.code l.from) (range_with_len 0 l.j)) ≡ false
