use Rattle.std.proofs.Common.{take}
use Rattle.std.specs.List.{flat_map}
use Rattle.ps_parser.specs.StatementView.{statement_tree}
use Rattle.ps_names.specs.Uses.{read, statement_uses}
use Rattle.ps_names.specs.Tables.{Has}
use Rattle.ps_resolve.proofs.reads.read_names.Given as goal

abbrev pub invariant-loop-statement : goal.invariant-loop-statement
invariant-loop-statement l = Has l.reads (flat_map (λ s. flat_map read (statement_uses (statement_tree s))) (take l.statement-index l.statements))
