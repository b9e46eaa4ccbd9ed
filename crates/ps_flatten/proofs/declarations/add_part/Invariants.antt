use Rattle.std.proofs.Common.{◌≡◌, ◌++◌, map, take}
use Rattle.std.specs.List.{flat_map}
use Rattle.ps_derived.specs.Flat.{section_flat, declarations_in}
use Rattle.ps_flatten.specs.Laying.{blocks_seen, declares, in_part}
use Rattle.ps_flatten.proofs.declarations.add_part.Given as goal

abbrev pub invariant-loop-section : goal.invariant-loop-section
invariant-loop-section l =
    flat_map (declares (blocks_seen l.blocks)) l.pieces.items
    ≡ flat_map (declares (blocks_seen l.blocks)) l.initial.pieces.items
    ++ declarations_in (in_part l.part) (map (section_flat (blocks_seen l.blocks)) (take l.section-index l.sections))
