use Rattle.std.proofs.Common.{◌≡◌, ◌++◌, map, take}
use Rattle.ps_resolve.proofs.declared.add_declaration.Given as goal
use Rattle.ps_names.specs.Names.{entry_of}

abbrev pub invariant-loop-name : goal.invariant-loop-name
invariant-loop-name l = l.entries.items ≡ l.initial.entries.items ++ map (entry_of l.part l.declaration.ty) (take l.name-index l.name-items)
