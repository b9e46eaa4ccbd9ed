use Rattle.std.proofs.Common.{◌≡◌, map, take}
use Rattle.std.specs.List.{sum_by}
use Rattle.ps_parser.specs.StatementView.{statement_tree}
use Rattle.ps_derived.specs.declared.limits.TheConstants.{MOST_FLAT_STATEMENTS}
use Rattle.ps_derived.specs.Limits.{counted_to}
use Rattle.ps_derived.specs.Counting.{statement_weight}
use Rattle.ps_derived.proofs.sizes.count_statements.Given as goal

abbrev pub invariant-loop-statement : goal.invariant-loop-statement
invariant-loop-statement l = l.count ≡ counted_to MOST_FLAT_STATEMENTS (sum_by (statement_weight l.blocks.sizes.now l.scope) (map statement_tree (take l.statement-index l.statements)))
