use Rattle.std.proofs.Common.{[], ◌++◌, ap, ◌∙◌, if◌then◌else◌}
use Rattle.std.specs.List.{flat_map}
use Rattle.ps_derived.specs.Flat.{section_flat}
use Rattle.ps_flatten.specs.Laying.{blocks_seen, declares, in_part}
use Rattle.ps_flatten.proofs.Copied.{part_more}
use Rattle.ps_flatten.proofs.declarations.add_part.Goals as goal

pub loop-section-preserved : goal.loop-section-preserved
loop-section-preserved c =
    let p = in_part c.args.part in
    let bs = blocks_seen c.args.blocks.now in
    let f = section_flat bs in
    let written = flat_map (declares bs) c.loop-section.pieces.items in
    part_more p f (flat_map (declares bs) c.args.pieces.now.items) written (flat_map (declares bs) c.add_section_if.new.pieces.items)
    c.args.sections.now c.loop-section.section-index c.section-item.result c.loop-section-test.true
    c.loop-section.invariant (c.in_ok-add_section_if.ensures ∙ ap (λ s. written ++ (if p (f s).part then (f s).declarations else [])) c.section-item.is)
