use Rattle.std.proofs.Common.{◌≡◌, take}
use Rattle.std.specs.List.{flat_map}
use Rattle.ps_names.specs.Offences.{noted}
use Rattle.ps_offences.specs.BlockRules.{named_as_type, block_names}
use Rattle.ps_offences.proofs.naming.check_kinds.Given as goal

abbrev pub invariant-loop-block : goal.invariant-loop-block
invariant-loop-block l = l.found ≡ noted l.fn.found (flat_map named_as_type (block_names (take l.block-index l.blocks)))
