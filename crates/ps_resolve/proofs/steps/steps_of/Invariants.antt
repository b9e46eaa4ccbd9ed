use Rattle.std.proofs.Common.{◌≡◌, map, take}
use Rattle.ps_parser.specs.StatementView.{statement_tree}
use Rattle.ps_names.specs.Stands.{action}
use Rattle.ps_resolve.proofs.steps.steps_of.Given as goal

abbrev pub invariant-loop-statement : goal.invariant-loop-statement
invariant-loop-statement l = l.steps ≡ map (action l.numbering.entries.now) (map statement_tree (take l.statement-index l.statements))
