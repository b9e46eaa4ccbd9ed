use Rattle.std.proofs.Common.{◌≡◌, take}
use Rattle.std.specs.List.{flat_map}
use Rattle.ps_derived.specs.Bodies.{section_declares}
use Rattle.ps_derived.proofs.declared.declared_names.Given as goal

abbrev pub invariant-loop-section : goal.invariant-loop-section
invariant-loop-section l = l.declared.items ≡ flat_map section_declares (take l.section-index l.sections)
