use Rattle.std.proofs.Common.{◌≡◌, ◌++◌, take}
use Rattle.std.specs.List.{flat_map}
use Rattle.ps_names.specs.Names.{declares}
use Rattle.ps_resolve.proofs.declared.add_section.Given as goal

abbrev pub invariant-loop-declaration : goal.invariant-loop-declaration
invariant-loop-declaration l = l.entries.items ≡ l.initial.entries.items ++ flat_map (declares l.section.part) (take l.declaration-index l.declaration-items)
