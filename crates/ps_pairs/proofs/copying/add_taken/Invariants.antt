use Rattle.std.proofs.Common.{◌≡◌, ◌++◌, drop}
use Rattle.std.specs.List.{flat_map}
use Rattle.ps_pairs.specs.Arranging.{taken_section}
use Rattle.ps_pairs.specs.Wanting.{wants}
use Rattle.ps_pairs.proofs.copying.add_taken.Given as goal

abbrev pub invariant-loop-section : goal.invariant-loop-section
invariant-loop-section l =
    l.written ++ flat_map (taken_section (wants l.wanted)) (drop l.section-index l.sections) ≡ l.initial.written ++ flat_map (taken_section (wants l.wanted)) l.sections
