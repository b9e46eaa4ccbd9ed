use Rattle.std.proofs.Common.{◌≡◌, ◌++◌, map}
use Rattle.ps_demand.specs.Views.{requirement}
use Rattle.ps_demand.proofs.joining.add_each.Given as goal

-- what is added, and what is left, is the whole
abbrev pub invariant-loop-part : goal.invariant-loop-part
invariant-loop-part l =
    map requirement l.parts.items ++ map requirement l.part-iterator.rest.items ≡ map requirement l.fn.parts.items ++ map requirement l.fn.within.items.items
