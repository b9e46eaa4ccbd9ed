use Rattle.std.proofs.Common.{◌≡◌, take, List}
use Rattle.std.specs.List.{flat_map}
use Rattle.ps_parser.specs.declared.name.Name.{Name}
use Rattle.ps_names.specs.Offences.{noted}
use Rattle.ps_offences.specs.BlockRules.{called_wrongly}
use Rattle.ps_offences.specs.Tallies.{Counts}
use Rattle.ps_offences.proofs.counts.check_counts.Given as goal

abbrev pub invariant-loop-declared : goal.invariant-loop-declared
invariant-loop-declared l = (cs ns : List Name) → Counts l.calls cs → Counts l.names ns → l.found ≡ noted l.fn.found (flat_map (called_wrongly l.body.before.now cs ns) (take l.declared-index l.declared-items))
