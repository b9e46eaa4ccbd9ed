use Rattle.std.proofs.Common.{ap, sym, ◌∙◌, arith}
use Rattle.std.specs.List.{flat_map}
use Rattle.std.proofs.lemmas.List.{take_all}
use Rattle.std.proofs.lemmas.List.Folds.{flat_map-map}
use Rattle.ps_parser.specs.StatementView.{statement_tree}
use Rattle.ps_names.specs.Offences.{noted}
use Rattle.ps_names.specs.Rules.{pins_twice}
use Rattle.ps_resolve.proofs.drivers.check_calls.Goals as goal

pub returns : goal.returns
returns c =
    let xs = c.args.statements.now in
    c.loop-statement.invariant ∙ ap (noted c.args.found)
    (ap (flat_map (λ s. pins_twice (statement_tree s))) (take_all c.loop-statement.statement-index xs (omega arith)) ∙ sym (flat_map-map pins_twice statement_tree xs))
