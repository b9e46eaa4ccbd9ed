use Rattle.std.proofs.Common.{◌≡◌, take}
use Rattle.std.specs.List.{flat_map}
use Rattle.ps_names.specs.Offences.{noted}
use Rattle.ps_parser.specs.StatementView.{statement_tree}
use Rattle.ps_offences.specs.BlockRules.{miscalled_by}
use Rattle.ps_offences.proofs.calls.check_calls.Given as goal

abbrev pub invariant-loop-statement : goal.invariant-loop-statement
invariant-loop-statement l = l.found ≡ noted l.fn.found (flat_map (λ s. miscalled_by l.body.before.now l.body.scope.now (statement_tree s)) (take l.statement-index l.statements))
