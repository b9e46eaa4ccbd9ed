-- Names as they are spelt where they are declared.
use Rattle.std.specs.Prelude.{ℕ, List, Option, None, Some, map}
use Rattle.ps_parser.specs.declared.name.Name.{Name}
use Rattle.ps_parser.specs.Tree.{SourceTree}
use Rattle.ps_derived.specs.declared.declared.Declared.{Declared}
use Rattle.ps_derived.specs.Bodies.{declared_names, first_declared}
use Rattle.ps_derived.specs.Renaming.{statement_renamed}

-- how a name is spelt at its declaration, if it has one
abbrev pub spelling : Name → Option Declared → List ℕ
spelling n None = n.text
spelling n (Some d) = d.name.text

-- a name spelt as its first declaration among these spells it, at its own place
abbrev pub as_declared : List Declared → Name → Name
as_declared ds n = record { text = spelling n (first_declared ds n); place = n.place }

-- a body that spells each name as it declares it
abbrev pub spelt_as_declared : SourceTree → SourceTree
spelt_as_declared s = record {
  name = s.name;
  sections = s.sections;
  statements = map (statement_renamed (as_declared (declared_names s.sections))) s.statements;
}
