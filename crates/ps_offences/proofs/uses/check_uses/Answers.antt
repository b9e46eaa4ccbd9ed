use Rattle.std.proofs.Common.{ap, ◌∙◌, arith}
use Rattle.std.specs.List.{flat_map}
use Rattle.std.proofs.lemmas.List.{take_all}
use Rattle.ps_parser.specs.StatementView.{statement_tree}
use Rattle.ps_names.specs.Offences.{noted}
use Rattle.ps_names.specs.Uses.{statement_uses}
use Rattle.ps_offences.specs.BlockRules.{misused}
use Rattle.ps_offences.proofs.Walks.{flat_flat}
use Rattle.ps_offences.proofs.uses.check_uses.Goals as goal

pub returns : goal.returns
returns c =
    let g = misused c.args.body.now.before.now c.args.body.now.scope.now in let xs = c.args.statements.now in
    c.loop-statement.invariant ∙ ap (noted c.args.found)
    (ap (flat_map (λ s. flat_map g (statement_uses (statement_tree s)))) (take_all c.loop-statement.statement-index xs (omega arith)) ∙ flat_flat g statement_uses statement_tree xs)
