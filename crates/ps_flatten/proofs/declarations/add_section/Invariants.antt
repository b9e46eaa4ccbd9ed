use Rattle.std.proofs.Common.{◌≡◌, ◌++◌, take}
use Rattle.std.specs.List.{flat_map}
use Rattle.ps_derived.specs.Flat.{block_in, declaration_flat}
use Rattle.ps_flatten.specs.Laying.{blocks_seen, declares}
use Rattle.ps_flatten.proofs.declarations.add_section.Given as goal

abbrev pub invariant-loop-declaration : goal.invariant-loop-declaration
invariant-loop-declaration l =
    flat_map (declares (blocks_seen l.blocks)) l.pieces.items
    ≡ flat_map (declares (blocks_seen l.blocks)) l.initial.pieces.items
    ++ flat_map (λ d. declaration_flat d (block_in (blocks_seen l.blocks) l.section.part d.ty)) (take l.declaration-index l.declaration-items)
