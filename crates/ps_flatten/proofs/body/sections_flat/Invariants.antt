use Rattle.std.proofs.Common.{◌≡◌, map, take}
use Rattle.ps_derived.specs.Flat.{section_flat}
use Rattle.ps_flatten.specs.Laying.{blocks_seen}
use Rattle.ps_flatten.proofs.body.sections_flat.Given as goal

abbrev pub invariant-loop-section : goal.invariant-loop-section
invariant-loop-section l = l.written ≡ map (section_flat (blocks_seen l.blocks)) (take l.section-index l.sections)
