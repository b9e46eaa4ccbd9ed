-- Function blocks that are laid flat, as the program keeps them: what stands in the place of each declaration and
-- statement, with copies that are named and not written.
use Rattle.std.specs.Prelude.{◌≡◌, ℕ, Bool, List, [], ◌∷◌, ◌++◌, Option, None, Some, map, slice_get, take}
use Rattle.std.specs.List.{flat_map, AllByRecursion}
use Rattle.ps_parser.specs.declared.name.Name.{Name}
use Rattle.ps_parser.specs.declared.section.Part.{Part}
use Rattle.ps_parser.specs.declared.section.Part.TheVariants.{Input, Output, Local}
use Rattle.ps_parser.specs.declared.section.Section.{Section}
use Rattle.ps_parser.specs.declared.section.Declaration.{Declaration}
use Rattle.ps_parser.specs.StatementView.{statement_tree}
use Rattle.ps_parser.specs.Tree.{StatementTree}
use Rattle.ps_derived.specs.Bodies.{is_input, is_output, is_local, inputs}
use Rattle.ps_derived.specs.Dotted.{inside, statement_inside}
use Rattle.ps_derived.specs.Spelling.{as_declared}
use Rattle.ps_derived.specs.Flat.{FlatBlock, DerivedInstance, declarations_in, copy_declares}
use Rattle.ps_flatten.specs.declared.laid.DeclarationPiece.{DeclarationPiece}
use Rattle.ps_flatten.specs.declared.laid.DeclarationPiece.TheVariants as declaration
use Rattle.ps_flatten.specs.declared.laid.StatementPiece.{StatementPiece}
use Rattle.ps_flatten.specs.declared.laid.StatementPiece.TheVariants as statement
use Rattle.ps_flatten.specs.declared.renaming.Renaming.{Renaming}
use Rattle.ps_flatten.specs.declared.renaming.Renaming.TheVariants.{Inside, AsDeclared}
use Rattle.ps_flatten.specs.declared.laid.Laid.{Laid}
use Rattle.ps_flatten.specs.declared.laid.Kept.{Kept}
use Rattle.ps_flatten.specs.declared.laid.Instance.{Instance}

-- what a name becomes
abbrev pub renamed : Renaming → Name → Name
renamed (Inside g) = inside g.now
renamed (AsDeclared scope) = as_declared scope.now

-- declarations in the order in which a copy has them: those of inputs, of outputs, and the block's own
abbrev pub copied : List Section → List Declaration
copied sections = declarations_in is_input sections ++ (declarations_in is_output sections ++ declarations_in is_local sections)

-- a part is this one
abbrev pub in_part : Part → Part → Bool
in_part Input = is_input
in_part Output = is_output
in_part Local = is_local

-- what a copy of a function block declares, where there is the function block
abbrev pub copy_declared : Name → Option FlatBlock → List Declaration
copy_declared g None = []
copy_declared g (Some b) = copy_declares b g

-- the statements of a copy of a function block, where there is the function block
abbrev pub copy_stated : Name → Option FlatBlock → List StatementTree
copy_stated g None = []
copy_stated g (Some b) = map (statement_inside g) b.flat.statements

-- the declarations that a piece stands for, over these function blocks
abbrev pub declares : List FlatBlock → DeclarationPiece → List Declaration
declares blocks (declaration.Own d) = d ∷ []
declares blocks (declaration.Copy g k) = copy_declared g (slice_get blocks k)

-- the statements that a piece stands for, over these function blocks
abbrev pub states : List FlatBlock → StatementPiece → List StatementTree
states blocks (statement.Own s) = statement_tree s ∷ []
states blocks (statement.Copy g k) = copy_stated g (slice_get blocks k)

-- the function block that is kept so, over those that stand before it
abbrev pub block_seen : List FlatBlock → Laid → FlatBlock
block_seen before l = record {
  name = l.interface.name;
  declared = l.interface.scope;
  flat = record {
    name = l.interface.name;
    sections = record { part = Local; declarations = flat_map (declares before) l.declarations.items } ∷ [];
    statements = flat_map (states before) l.statements.items;
  };
}

-- these function blocks after those that stand before them, each over all before it
abbrev pub seen_after : List FlatBlock → List Laid → List FlatBlock
seen_after before [] = []
seen_after before (l ∷ ls) = block_seen before l ∷ seen_after (before ++ block_seen before l ∷ []) ls

-- the function blocks that are kept so
abbrev pub blocks_seen : List Laid → List FlatBlock
blocks_seen ls = seen_after [] ls

-- the function block that is kept so at its place
abbrev pub kept_seen : List FlatBlock → Kept → FlatBlock
kept_seen blocks k = block_seen (take k.place blocks) k.laid.now

-- the instance that is kept so
abbrev pub instance_seen : List FlatBlock → Instance → DerivedInstance
instance_seen blocks i = record { name = i.name.now; block = kept_seen blocks i.block }

-- the inputs that are kept are those that are declared
abbrev pub KnowsInputs : Laid → Type 0
KnowsInputs l = l.interface.inputs ≡ inputs l.interface.scope

-- the same of each
abbrev pub KnowInputs : List Laid → Type 0
KnowInputs laid = AllByRecursion KnowsInputs laid

-- it stands at its place among these function blocks, and its inputs are those that are declared
pub record IsKept (blocks : List FlatBlock) (k : Kept) : Type 0 where
  pub there : slice_get blocks k.place ≡ Some (kept_seen blocks k)
  pub inputs : KnowsInputs k.laid.now

-- What is kept of a function block is what it is. Its declarations stand in the order of a copy.
pub record IsLaid (l : FlatBlock) (b : FlatBlock) : Type 0 where
  pub name : l.name ≡ b.name
  pub declared : l.declared ≡ b.declared
  pub declares : copied l.flat.sections ≡ copied b.flat.sections
  pub statements : l.flat.statements ≡ b.flat.statements

-- the same of each, in order
abbrev pub AreLaid : List FlatBlock → List FlatBlock → Type 0
AreLaid [] [] = Unit {0}
AreLaid [] (b ∷ bs) = ⊥
AreLaid (l ∷ ls) [] = ⊥
AreLaid (l ∷ ls) (b ∷ bs) = IsLaid l b × AreLaid ls bs
