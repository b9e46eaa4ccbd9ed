use Rattle.std.proofs.Common.{◌+◌, arith}
use Rattle.std.specs.Prelude.{slice_index}
use Rattle.ps_eqvm.proofs.Blocks.{unnumbered}
use Rattle.ps_eqvm.proofs.turn.turn_block.Goals as goal

pub turn_block_as-requires-in_default-clause-number : goal.turn_block_as-requires-in_default-clause-number
turn_block_as-requires-in_default-clause-number c = unnumbered (slice_index c.args.code.now (c.args.at + 3)) (λ low high. omega (arith, low, high))
