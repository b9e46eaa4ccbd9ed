-- What a body declares: a function block, or the program.
use Rattle.std.specs.Prelude.{Bool, true, false, List, [], ◌∷◌, ◌++◌, Option, None, Some, map, if◌then◌else◌}
use Rattle.std.specs.List.{flat_map, find, list_any}
use Rattle.ps_base.specs.LetterCase.{is_same_name}
use Rattle.ps_parser.specs.declared.name.Name.{Name}
use Rattle.ps_parser.specs.declared.section.Part.{Part}
use Rattle.ps_parser.specs.declared.section.Part.TheVariants.{Input, Output, Local}
use Rattle.ps_parser.specs.declared.section.Declaration.{Declaration}
use Rattle.ps_parser.specs.declared.section.Section.{Section}
use Rattle.ps_derived.specs.declared.declared.Declared.{Declared}

-- two names are the same without letter case
abbrev pub same : Name → Name → Bool
same a b = is_same_name a.text b.text

-- a name that is declared in a part with a type
abbrev pub declared_as : Part → Name → Name → Declared
declared_as part ty n = record { name = n; part = part; ty = ty }

-- the names of a declaration, in order
abbrev pub declares : Part → Declaration → List Declared
declares part d = map (declared_as part d.ty) d.names

-- the names of a section, in order
abbrev pub section_declares : Section → List Declared
section_declares s = flat_map (declares s.part) s.declarations

-- the declared names of a body, in order
abbrev pub declared_names : List Section → List Declared
declared_names sections = flat_map section_declares sections

-- the first declaration of a name
abbrev pub first_declared : List Declared → Name → Option Declared
first_declared ds n = find (λ d. same n d.name) ds

-- whether a part is VAR_INPUT
abbrev pub is_input : Part → Bool
is_input Input = true
is_input _ = false

-- whether a part is VAR_OUTPUT
abbrev pub is_output : Part → Bool
is_output Output = true
is_output _ = false

-- whether a part is VAR
abbrev pub is_local : Part → Bool
is_local Local = true
is_local _ = false

-- ---- function blocks, by the names of types

-- Function blocks, or what stands for them: each has the name of its function block.
module _ {X : Type 0} (name_of : X → Name) where
  -- the first with this name
  abbrev pub first_named : List X → Name → Option X
  first_named xs n = find (λ x. same n (name_of x)) xs

  -- what a type is in a part: function blocks are types in VAR alone
  abbrev pub type_in : List X → Part → Name → Option X
  type_in xs Local ty = first_named xs ty
  type_in xs _ ty = None

  -- what a declaration makes its name an instance of, if there is one and it does
  abbrev pub made_by : List X → Option Declared → Option X
  made_by xs None = None
  made_by xs (Some d) = type_in xs d.part d.ty

  -- what a name of a body is an instance of, by its first declaration
  abbrev pub made_of : List X → List Declared → Name → Option X
  made_of xs ds n = made_by xs (first_declared ds n)

-- ---- inputs

-- whether the name of this declaration is one of these names
abbrev pub is_among : List Name → Declared → Bool
is_among names d = list_any (same d.name) names

-- the inputs among these declarations, where these names stand before: of each name the first declaration counts
abbrev pub inputs_after : List Name → List Declared → List Name
inputs_after before [] = []
inputs_after before (d ∷ ds) =
    (if is_among before d then [] else (if is_input d.part then d.name ∷ [] else [])) ++ inputs_after (before ++ d.name ∷ []) ds

-- the inputs of a body: the names whose first declaration is one of VAR_INPUT, in order
abbrev pub inputs : List Declared → List Name
inputs ds = inputs_after [] ds
