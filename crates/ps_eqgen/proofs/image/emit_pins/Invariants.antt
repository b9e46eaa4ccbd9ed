use Rattle.std.proofs.Common.{◌≡◌, ◌++◌}
use Rattle.std.specs.List.{flat_map, range_with_len}
use Rattle.ps_eqvm.specs.Code.{bytes_of, rows_at}
use Rattle.ps_eqgen.proofs.image.emit_pins.Given as goal

abbrev pub invariant-loop-j : goal.invariant-loop-j
invariant-loop-j l = l.code.items ≡ l.initial.code.items ++ bytes_of (flat_map (rows_at l.args) (range_with_len 0 l.j))
