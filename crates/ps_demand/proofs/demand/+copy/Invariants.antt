use Rattle.std.proofs.Common.{◌≡◌, map, take}
use Rattle.ps_demand.specs.Views.{requirement}
use Rattle.ps_demand.proofs.demand.+copy.Given as goal

abbrev pub invariant-copy_parts-loop-part : goal.invariant-copy_parts-loop-part
invariant-copy_parts-loop-part l = map requirement l.items.items ≡ map requirement (take l.part-index l.part-items)
