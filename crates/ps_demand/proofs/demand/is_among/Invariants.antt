use Rattle.std.proofs.Common.{◌≡◌, map, drop}
use Rattle.std.specs.List.{list_any}
use Rattle.ps_demand.specs.Requirement.{same}
use Rattle.ps_demand.specs.Views.{requirement}
use Rattle.ps_demand.proofs.demand.is_among.Given as goal

-- those that are left decide
abbrev pub invariant-loop-other : goal.invariant-loop-other
invariant-loop-other l =
    list_any (same (requirement l.fn.demand)) (map requirement l.fn.others) ≡ list_any (same (requirement l.fn.demand)) (map requirement (drop l.other-index l.fn.others))
