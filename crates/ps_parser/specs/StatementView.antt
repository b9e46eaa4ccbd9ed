-- The tree for which a statement of the program stands.
use Rattle.ps_parser.specs.declared.statement.Statement.{Statement}
use Rattle.ps_parser.specs.declared.statement.Statement.TheVariants as statement
use Rattle.ps_parser.specs.Tree.{StatementTree, Assign, Call}
use Rattle.ps_parser.specs.SumView.{sum_tree}

-- an assignment with the tree of its value, or a call with those of its arguments
abbrev pub statement_tree : Statement → StatementTree
statement_tree (statement.Assign t s) = Assign t (sum_tree s)
statement_tree (statement.Call n args) = Call n args
