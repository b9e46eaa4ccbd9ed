use Rattle.std.proofs.Common.{◌≡◌, ◌++◌, map}
use Rattle.std.specs.Int.{w16, to_be_bytes}
use Rattle.std.specs.List.{flat_map, range_with_len}
use Rattle.ps_eqvm.specs.Code.{operand_of_pin}
use Rattle.ps_eqgen.proofs.image.emit_operands.Given as goal

abbrev pub invariant-loop-j : goal.invariant-loop-j
invariant-loop-j l = l.code.items ≡ l.initial.code.items ++ flat_map (to_be_bytes w16) (map (operand_of_pin l.kind l.args) (range_with_len 0 l.j))
