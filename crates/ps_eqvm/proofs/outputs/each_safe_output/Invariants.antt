use Rattle.std.proofs.Common.{map}
use Rattle.std.specs.List.{range_with_len}
use Rattle.ps_model.specs.Blocks.{safe_output}
use Rattle.ps_eqvm.specs.LowBits.{AreLowBits}
use Rattle.ps_eqvm.proofs.outputs.each_safe_output.Given as goal

abbrev pub invariant-loop-j : goal.invariant-loop-j
invariant-loop-j l = AreLowBits (map (safe_output l.kind l.code l.mode) (range_with_len 0 l.j)) l.bits
