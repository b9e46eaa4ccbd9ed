-- The text of a body inside an instance: the instance's name and a dot stand before each name but a pin's name in a
-- call or after a dot.
use Rattle.std.specs.Prelude.{◌∷◌, ◌++◌, map}
use Rattle.ps_parser.specs.declared.name.Name.{Name}
use Rattle.ps_parser.specs.declared.section.Declaration.{Declaration}
use Rattle.ps_parser.specs.Tree.{StatementTree}
use Rattle.ps_derived.specs.Renaming.{statement_renamed}

-- a name inside an instance, at its own place
abbrev pub inside : Name → Name → Name
inside g n = record { text = g.text ++ 46 ∷ n.text; place = n.place }

-- a statement inside an instance
abbrev pub statement_inside : Name → StatementTree → StatementTree
statement_inside g s = statement_renamed (inside g) s

-- a declaration inside an instance, whose type keeps its name
abbrev pub declaration_inside : Name → Declaration → Declaration
declaration_inside g d = record { names = map (inside g) d.names; ty = d.ty }
