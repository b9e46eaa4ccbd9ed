use Rattle.std.proofs.Common.{◌≡◌, take, List}
use Rattle.std.specs.List.{flat_map}
use Rattle.ps_parser.specs.declared.name.Name.{Name}
use Rattle.ps_names.specs.Tables.{Has}
use Rattle.ps_resolve.proofs.drivers.check_called.Given as goal
use Rattle.ps_names.specs.Offences.{noted}
use Rattle.ps_names.specs.Rules.{uncalled}

abbrev pub invariant-loop-e : goal.invariant-loop-e
invariant-loop-e l = (ns : List Name) → Has l.calls ns → l.found ≡ noted l.fn.found (flat_map (uncalled ns) (take l.e-index l.entries))
