use Rattle.std.proofs.Common.{[], map, take}
use Rattle.ps_derived.specs.Spelling.{spelt_as_declared}
use Rattle.ps_derived.specs.Flat.{blocks_flat}
use Rattle.ps_flatten.specs.Laying.{AreLaid, blocks_seen}
use Rattle.ps_flatten.proofs.body.lay_blocks.Given as goal

abbrev pub invariant-loop-i : goal.invariant-loop-i
invariant-loop-i l = AreLaid (blocks_seen l.blocks) (blocks_flat [] (map spelt_as_declared (take l.i l.sources)))
