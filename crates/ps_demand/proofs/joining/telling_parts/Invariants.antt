use Rattle.std.proofs.Common.{◌≡◌, [], ◌++◌, map}
use Rattle.ps_demand.specs.Slim.{telling}
use Rattle.ps_demand.specs.Views.{requirement}
use Rattle.ps_demand.proofs.joining.telling_parts.Given as goal

-- what tells so far, and what does of the parts that are left, make the whole
abbrev pub invariant-loop-part : goal.invariant-loop-part
invariant-loop-part l =
    map requirement l.set.keys ++ telling l.join (map requirement l.set.keys) (map requirement l.part-iterator.rest.items)
    ≡ telling l.join [] (map requirement l.fn.parts.items)
