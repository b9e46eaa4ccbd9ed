-- The tree for which a source of the program stands.
use Rattle.ps_parser.specs.declared.source.Source.TheInside.{Inside}
use Rattle.ps_parser.specs.Tree.{SourceTree}
use Rattle.ps_parser.specs.Whole.{IsSource}

-- its name, its sections, and its statements as trees
abbrev pub source_tree : Inside → SourceTree
source_tree s = record { name = s.name; sections = s.sections; statements = s.statements }

-- what is inside a source keeps what every source keeps
abbrev pub IsSourceInside : Inside → Type 0
IsSourceInside s = IsSource (source_tree s)
