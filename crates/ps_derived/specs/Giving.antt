-- Texts whose calls of derived instances have an argument for each input, as rule B3 asks.
use Rattle.std.specs.Prelude.{◌≡◌, true, List, [], ◌∷◌, ◌++◌, Option, None, Some, map, is_some}
use Rattle.std.specs.List.{find, AllByRecursion}
use Rattle.ps_parser.specs.declared.name.Name.{Name}
use Rattle.ps_parser.specs.Tree.{ArgumentTree, StatementTree, Assign, Call, SourceTree}
use Rattle.ps_derived.specs.declared.declared.Declared.{Declared}
use Rattle.ps_derived.specs.declared.interface.Interface.{Interface}
use Rattle.ps_derived.specs.declared.library.Library.{Library}
use Rattle.ps_derived.specs.Bodies.{same, declared_names}
use Rattle.ps_derived.specs.Interfaces.{interface_of, derived_of}

-- an argument for this input is among these
abbrev pub HasArgument : List ArgumentTree → Name → Type 0
HasArgument args x = is_some (find (λ a. same x a.pin) args) ≡ true

-- for each input of a function block, if there is one
abbrev pub HasArguments : List ArgumentTree → Option Interface → Type 0
HasArguments args None = Unit {0}
HasArguments args (Some b) = AllByRecursion (HasArgument args) b.inputs

-- for each input of a called instance of these function blocks, of a body that declares these names
abbrev pub GivesInputs : List Interface → List Declared → StatementTree → Type 0
GivesInputs before ds (Assign t s) = Unit {0}
GivesInputs before ds (Call n args) = HasArguments args (derived_of before ds n)

-- in each call of a body with these function blocks before it
abbrev pub BodyGives : List Interface → SourceTree → Type 0
BodyGives before s = AllByRecursion (GivesInputs before (declared_names s.sections)) s.statements

-- in each call of these function blocks
abbrev pub BlocksGive : List Interface → List SourceTree → Type 0
BlocksGive before [] = Unit {0}
BlocksGive before (b ∷ bs) = BodyGives before b × BlocksGive (before ++ interface_of b ∷ []) bs

-- Each call of a derived instance in a text has an argument for each of its inputs.
pub record EachCallGives (l : Library) : Type 0 where
  pub blocks : BlocksGive [] l.blocks
  pub program : BodyGives (map interface_of l.blocks) l.program
