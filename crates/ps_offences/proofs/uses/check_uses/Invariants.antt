use Rattle.std.proofs.Common.{◌≡◌, take}
use Rattle.std.specs.List.{flat_map}
use Rattle.ps_names.specs.Offences.{noted}
use Rattle.ps_parser.specs.StatementView.{statement_tree}
use Rattle.ps_names.specs.Uses.{statement_uses}
use Rattle.ps_offences.specs.BlockRules.{misused}
use Rattle.ps_offences.proofs.uses.check_uses.Given as goal

abbrev pub invariant-loop-statement : goal.invariant-loop-statement
invariant-loop-statement l = l.found ≡ noted l.fn.found (flat_map (λ s. flat_map (misused l.body.before.now l.body.scope.now) (statement_uses (statement_tree s))) (take l.statement-index l.statements))
