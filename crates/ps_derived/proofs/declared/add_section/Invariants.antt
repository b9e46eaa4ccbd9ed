use Rattle.std.proofs.Common.{◌≡◌, ◌++◌, take}
use Rattle.std.specs.List.{flat_map}
use Rattle.ps_derived.specs.Bodies.{declares}
use Rattle.ps_derived.proofs.declared.add_section.Given as goal

abbrev pub invariant-loop-declaration : goal.invariant-loop-declaration
invariant-loop-declaration l = l.declared.items ≡ l.initial.declared.items ++ flat_map (declares l.section.part) (take l.declaration-index l.declaration-items)
