use Rattle.std.proofs.Common.{ap, ◌∙◌, arith}
use Rattle.std.specs.List.{flat_map}
use Rattle.std.proofs.lemmas.List.{take_all}
use Rattle.ps_parser.specs.StatementView.{statement_tree}
use Rattle.ps_names.specs.Uses.{read, statement_uses}
use Rattle.ps_names.proofs.NamesAgain.{has_same}
use Rattle.ps_resolve.proofs.Walks.{flat_flat}
use Rattle.ps_resolve.proofs.reads.read_names.Goals as goal

pub returns : goal.returns
returns c =
    has_same c.loop-statement.reads _ _
    (ap (flat_map (λ s. flat_map read (statement_uses (statement_tree s)))) (take_all c.loop-statement.statement-index c.args.statements.now (omega arith))
    ∙ flat_flat read statement_uses statement_tree c.args.statements.now)
    c.loop-statement.invariant
