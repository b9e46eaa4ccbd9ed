use Rattle.std.proofs.Common.{◌≡◌, take, List}
use Rattle.std.specs.List.{flat_map}
use Rattle.ps_parser.specs.declared.name.Name.{Name}
use Rattle.ps_names.specs.Offences.{noted}
use Rattle.ps_names.specs.Tables.{Has}
use Rattle.ps_offences.specs.BlockRules.{typed_wrongly}
use Rattle.ps_offences.proofs.types.check_types.Given as goal

abbrev pub invariant-loop-one : goal.invariant-loop-one
invariant-loop-one l = (ns : List Name) → Has l.names ns → l.found ≡ noted l.fn.found (flat_map (typed_wrongly l.heads ns l.before) (take l.one-index l.declared))
