use Rattle.std.proofs.Common.{map, take}
use Rattle.std.specs.List.{flat_map}
use Rattle.ps_parser.specs.StatementView.{statement_tree}
use Rattle.ps_names.specs.Uses.{called}
use Rattle.ps_offences.specs.Tallies.{Counts}
use Rattle.ps_offences.proofs.counts.calls_of.Given as goal

abbrev pub invariant-loop-i : goal.invariant-loop-i
invariant-loop-i l = Counts l.calls (flat_map called (map statement_tree (take l.i l.statements)))
