use Rattle.std.proofs.Common.{◌≡◌, drop, List}
use Rattle.ps_parser.specs.declared.name.Name.{Name}
use Rattle.ps_names.specs.Tables.{Has}
use Rattle.ps_offences.specs.BlockRules.{leaves_out}
use Rattle.ps_offences.proofs.calls.leaves_out.Given as goal

abbrev pub invariant-loop-input : goal.invariant-loop-input
invariant-loop-input l = (ns : List Name) → Has l.pins ns → leaves_out (drop l.input-index l.inputs) ns ≡ leaves_out l.inputs ns
