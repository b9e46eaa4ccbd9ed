use Rattle.std.proofs.Common.{◌≡◌, ◌++◌, map, take}
use Rattle.ps_derived.specs.Bodies.{declared_as}
use Rattle.ps_derived.proofs.declared.add_declaration.Given as goal

abbrev pub invariant-loop-name : goal.invariant-loop-name
invariant-loop-name l = l.declared.items ≡ l.initial.declared.items ++ map (declared_as l.part l.declaration.ty) (take l.name-index l.name-items)
