use Rattle.std.proofs.Common.{ap, ◌∙◌, arith}
use Rattle.std.specs.List.{flat_map}
use Rattle.std.proofs.lemmas.List.{take_all}
use Rattle.ps_parser.specs.StatementView.{statement_tree}
use Rattle.ps_names.specs.Offences.{noted}
use Rattle.ps_offences.specs.BlockRules.{miscalled_by}
use Rattle.ps_offences.proofs.Walks.{flat_seen}
use Rattle.ps_offences.proofs.calls.check_calls.Goals as goal

pub returns : goal.returns
returns c =
    let g = miscalled_by c.args.body.now.before.now c.args.body.now.scope.now in
    let xs = c.args.statements.now in
    c.loop-statement.invariant ∙ ap (noted c.args.found)
    (ap (flat_map (λ s. g (statement_tree s))) (take_all c.loop-statement.statement-index xs (omega arith)) ∙ flat_seen g statement_tree xs)
