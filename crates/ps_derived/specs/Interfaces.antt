-- What a body sees of the function blocks that stand before it.
use Rattle.std.specs.Prelude.{Bool, false, List, Option, None, Some}
use Rattle.ps_parser.specs.declared.name.Name.{Name}
use Rattle.ps_parser.specs.declared.section.Part.{Part}
use Rattle.ps_parser.specs.Tree.{SourceTree}
use Rattle.ps_derived.specs.declared.declared.Declared.{Declared}
use Rattle.ps_derived.specs.Bodies.{is_input, is_output, declared_names, first_declared, first_named, type_in, made_by}
use Rattle.ps_derived.specs.Bodies.{made_of, inputs}
use Rattle.ps_derived.specs.declared.interface.Interface.{Interface}

-- the name of a function block, what it declares, and its inputs
abbrev pub interface_of : SourceTree → Interface
interface_of s = record { name = s.name; scope = declared_names s.sections; inputs = inputs (declared_names s.sections) }

-- the first of these function blocks with this name
abbrev pub interface_named : List Interface → Name → Option Interface
interface_named blocks n = first_named (λ (b : Interface). b.name) blocks n

-- the function block of which a declaration makes an instance
abbrev pub derived_by : List Interface → Declared → Option Interface
derived_by before d = type_in (λ (b : Interface). b.name) before d.part d.ty

-- the same where there is a declaration
abbrev pub derived_if : List Interface → Option Declared → Option Interface
derived_if before o = made_by (λ (b : Interface). b.name) before o

-- the function block of which a name of a body is a derived instance
abbrev pub derived_of : List Interface → List Declared → Name → Option Interface
derived_of before ds n = made_of (λ (b : Interface). b.name) before ds n

-- whether a declaration stands in this part
abbrev pub is_in : (Part → Bool) → Option Declared → Bool
is_in is_part None = false
is_in is_part (Some d) = is_part d.part

-- whether a function block has an input with this name: its first declaration is one of VAR_INPUT
abbrev pub declares_input : Interface → Name → Bool
declares_input b q = is_in is_input (first_declared b.scope q)

-- whether a function block has an output with this name: its first declaration is one of VAR_OUTPUT
abbrev pub declares_output : Interface → Name → Bool
declares_output b q = is_in is_output (first_declared b.scope q)
