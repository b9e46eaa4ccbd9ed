use Rattle.std.proofs.Common.{◌≡◌, take}
use Rattle.std.specs.List.{flat_map}
use Rattle.ps_resolve.proofs.drivers.check_types.Given as goal
use Rattle.ps_names.specs.Offences.{noted}
use Rattle.ps_names.specs.Rules.{untyped}

abbrev pub invariant-loop-e : goal.invariant-loop-e
invariant-loop-e l = l.found ≡ noted l.fn.found (flat_map untyped (take l.e-index l.entries))
