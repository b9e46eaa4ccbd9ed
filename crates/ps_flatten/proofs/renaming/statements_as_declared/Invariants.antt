use Rattle.std.proofs.Common.{◌≡◌, map, take}
use Rattle.ps_parser.specs.StatementView.{statement_tree}
use Rattle.ps_derived.specs.Renaming.{statement_renamed}
use Rattle.ps_derived.specs.Spelling.{as_declared}
use Rattle.ps_flatten.proofs.renaming.statements_as_declared.Given as goal

abbrev pub invariant-loop-statement : goal.invariant-loop-statement
invariant-loop-statement l = l.written ≡ map (statement_renamed (as_declared l.scope)) (map statement_tree (take l.statement-index l.statements))
