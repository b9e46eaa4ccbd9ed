use Rattle.std.proofs.Common.{◌≡◌, take}
use Rattle.std.specs.List.{flat_map}
use Rattle.ps_parser.specs.StatementView.{statement_tree}
use Rattle.ps_names.specs.Offences.{noted}
use Rattle.ps_names.specs.Uses.{statement_uses}
use Rattle.ps_names.specs.Rules.{broken_by}
use Rattle.ps_resolve.proofs.uses.check_statements.Given as goal

abbrev pub invariant-loop-statement : goal.invariant-loop-statement
invariant-loop-statement l = l.found ≡ noted l.fn.found (flat_map (λ s. flat_map (broken_by l.names.entries.now) (statement_uses (statement_tree s))) (take l.statement-index l.statements))
