use Rattle.std.proofs.Common.{◌≡◌, take, min, sum_by}
use Rattle.ps_parser.specs.StatementView.{statement_tree}
use Rattle.ps_names.specs.Limits.{statement_nodes}
use Rattle.ps_resolve.proofs.limits.count_nodes.Given as goal

abbrev pub invariant-loop-statement : goal.invariant-loop-statement
invariant-loop-statement l = l.count ≡ min (sum_by (λ s. statement_nodes (statement_tree s)) (take l.statement-index l.statements)) 32768
