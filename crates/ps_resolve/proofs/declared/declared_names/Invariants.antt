use Rattle.std.proofs.Common.{◌≡◌, take}
use Rattle.std.specs.List.{flat_map}
use Rattle.ps_names.specs.Names.{section_entries}
use Rattle.ps_resolve.proofs.declared.declared_names.Given as goal

abbrev pub invariant-loop-section : goal.invariant-loop-section
invariant-loop-section l = l.entries.items ≡ flat_map section_entries (take l.section-index l.sections)
