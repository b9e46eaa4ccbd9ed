use Rattle.std.proofs.Common.{◌≡◌, ◌++◌, take}
use Rattle.std.specs.List.{flat_map}
use Rattle.ps_derived.specs.Flat.{copy_declares}
use Rattle.ps_flatten.specs.Laying.{blocks_seen, declares, kept_seen}
use Rattle.ps_flatten.proofs.declarations.add_copies.Given as goal

abbrev pub invariant-loop-name : goal.invariant-loop-name
invariant-loop-name l =
    flat_map (declares (blocks_seen l.blocks)) l.pieces.items
    ≡ flat_map (declares (blocks_seen l.blocks)) l.initial.pieces.items ++ flat_map (copy_declares (kept_seen (blocks_seen l.blocks) l.block)) (take l.name-index l.names)
