-- The tree for which an argument of the program stands.
use Rattle.ps_parser.specs.declared.statement.Argument.{Argument}
use Rattle.ps_parser.specs.Tree.{ArgumentTree}
use Rattle.ps_parser.specs.SumView.{sum_tree}

-- a pin with the tree of its value
abbrev pub argument_tree : Argument → ArgumentTree
argument_tree a = record { pin = a.pin; value = sum_tree a.value }
