-- The flat source of a whole text: its program without derived instances.
use Rattle.std.specs.Prelude.{ℕ, Bool, List, [], ◌∷◌, ◌++◌, Option, None, Some, map, if◌then◌else◌}
use Rattle.std.specs.List.{flat_map, find}
use Rattle.ps_parser.specs.declared.name.Name.{Name}
use Rattle.ps_parser.specs.declared.section.Part.{Part}
use Rattle.ps_parser.specs.declared.section.Part.TheVariants.{Local}
use Rattle.ps_parser.specs.declared.section.Declaration.{Declaration}
use Rattle.ps_parser.specs.declared.section.Section.{Section}
use Rattle.ps_parser.specs.declared.statement.Target.TheVariants as target
use Rattle.ps_parser.specs.Tree.{FactorTree, Signal, Pin, Literal, Time, Group, ProductTree, no_factor, factor, SumTree}
use Rattle.ps_parser.specs.Tree.{no_product, product, ArgumentTree, StatementTree, Assign, Call, SourceTree}
use Rattle.ps_derived.specs.declared.declared.Declared.{Declared}
use Rattle.ps_derived.specs.declared.library.Library.{Library}
use Rattle.ps_derived.specs.Bodies.{same, is_input, is_output, is_local, declared_names, first_declared, first_named}
use Rattle.ps_derived.specs.Bodies.{type_in, inputs}
use Rattle.ps_derived.specs.Dotted.{inside, statement_inside, declaration_inside}
use Rattle.ps_derived.specs.Spelling.{spelling, spelt_as_declared}

-- A function block that is laid flat: its name, what it declares in the text, and its flat source.
pub record FlatBlock : Type 0 where
  pub name : Name
  pub declared : List Declared
  pub flat : SourceTree

-- An instance of a function block: its name as it is declared, and the block.
pub record DerivedInstance : Type 0 where
  pub name : Name
  pub block : FlatBlock

-- the first of these blocks with this name
abbrev pub block_named : List FlatBlock → Name → Option FlatBlock
block_named blocks n = first_named (λ (b : FlatBlock). b.name) blocks n

-- the block that a type is in a part
abbrev pub block_in : List FlatBlock → Part → Name → Option FlatBlock
block_in blocks part ty = type_in (λ (b : FlatBlock). b.name) blocks part ty

-- the instance that a declaration makes, where its type is a block
abbrev pub instance_by : Declared → Option FlatBlock → Option DerivedInstance
instance_by d None = None
instance_by d (Some b) = Some (record { name = d.name; block = b })

-- the instance that a declaration makes its name, if it makes one
abbrev pub instance_if : List FlatBlock → Option Declared → Option DerivedInstance
instance_if blocks None = None
instance_if blocks (Some d) = instance_by d (block_in blocks d.part d.ty)

-- the derived instance that a name of a body is, by its first declaration
abbrev pub instance_of : List FlatBlock → List Declared → Name → Option DerivedInstance
instance_of blocks ds n = instance_if blocks (first_declared ds n)

-- ---- declarations

-- the declarations of a source in one part
abbrev pub declarations_in : (Part → Bool) → List Section → List Declaration
declarations_in is_part [] = []
declarations_in is_part (s ∷ ss) = (if is_part s.part then s.declarations else []) ++ declarations_in is_part ss

-- what a copy of a block declares: the block's inputs, its outputs, and its own names, each inside the instance
abbrev pub copy_declares : FlatBlock → Name → List Declaration
copy_declares b g =
    let sections = b.flat.sections in
    map (declaration_inside g) (declarations_in is_input sections ++ (declarations_in is_output sections ++ declarations_in is_local sections))

-- a declaration as it is, or the copies of its block in the place of its instances
abbrev pub declaration_flat : Declaration → Option FlatBlock → List Declaration
declaration_flat d None = d ∷ []
declaration_flat d (Some b) = flat_map (copy_declares b) d.names

-- a section with the copies in the place of derived instances
abbrev pub section_flat : List FlatBlock → Section → Section
section_flat blocks s = record { part = s.part; declarations = flat_map (λ d. declaration_flat d (block_in blocks s.part d.ty)) s.declarations }

-- ---- statements

-- an output of a derived instance is a name with a dot, spelt as both are declared, at the place of the instance's name
abbrev pub output_read : Name → Name → Option DerivedInstance → FactorTree
output_read n q None = Pin n q
output_read n q (Some i) = Signal (record { text = i.name.text ++ 46 ∷ spelling q (first_declared i.block.declared q); place = n.place })

module _ (blocks : List FlatBlock) (ds : List Declared) where
  abbrev mutual
    -- a factor without outputs of derived instances
    pub factor_flat : FactorTree → FactorTree
    factor_flat (Signal n) = Signal n
    factor_flat (Pin n q) = output_read n q (instance_of blocks ds n)
    factor_flat (Literal b p) = Literal b p
    factor_flat (Time t p) = Time t p
    factor_flat (Group s) = Group (sum_flat s)

    -- a product without outputs of derived instances
    pub product_flat : ProductTree → ProductTree
    product_flat no_factor = no_factor
    product_flat (factor f fs) = factor (factor_flat f) (product_flat fs)

    -- a sum without outputs of derived instances
    pub sum_flat : SumTree → SumTree
    sum_flat no_product = no_product
    sum_flat (product p ps) = product (product_flat p) (sum_flat ps)

  -- an argument of a call of a block of the standard
  abbrev pub argument_flat : ArgumentTree → ArgumentTree
  argument_flat a = record { pin = a.pin; value = sum_flat a.value }

  -- The assignment of an input at the place of its pin's name, with the value of its argument. A call that leaves the
  -- input out is refused by B3; here it is given nothing.
  abbrev pub input_assigned : Name → Option ArgumentTree → StatementTree
  input_assigned x None = Assign (target.Name x) no_product
  input_assigned x (Some a) = Assign (target.Name (record { text = x.text; place = a.pin.place })) (sum_flat a.value)

  -- a call as it is, or the inputs' assignments and the statements of the copy in the place of a derived instance's
  -- call
  abbrev pub call_flat : Name → List ArgumentTree → Option DerivedInstance → List StatementTree
  call_flat n args None = Call n (map argument_flat args) ∷ []
  call_flat n args (Some i) =
      map (λ x. input_assigned (inside i.name x) (find (λ a. same x a.pin) args)) (inputs i.block.declared)
      ++ map (statement_inside i.name) i.block.flat.statements

  -- a statement with the copies in the place of calls of derived instances
  abbrev pub statement_flat : StatementTree → List StatementTree
  statement_flat (Assign t s) = Assign t (sum_flat s) ∷ []
  statement_flat (Call n args) = call_flat n args (instance_of blocks ds n)

-- ---- bodies

-- a body without derived instances, where these blocks stand before it
abbrev pub body_flat : List FlatBlock → SourceTree → SourceTree
body_flat blocks s = record {
  name = s.name;
  sections = map (section_flat blocks) s.sections;
  statements = flat_map (statement_flat blocks (declared_names s.sections)) s.statements;
}

-- a function block that is laid flat
abbrev pub block_flat : List FlatBlock → SourceTree → FlatBlock
block_flat blocks s = record { name = s.name; declared = declared_names s.sections; flat = body_flat blocks s }

-- these function blocks laid flat, each over those that stand before it
abbrev pub blocks_flat : List FlatBlock → List SourceTree → List FlatBlock
blocks_flat before [] = before
blocks_flat before (b ∷ bs) = blocks_flat (before ++ block_flat before b ∷ []) bs

-- The flat source of a whole text. So each part of a dotted name is spelt as at its own declaration: an instance's name
-- and an output after its dot in each body, and each other name of a function block before its copies are made.
abbrev pub flat : Library → SourceTree
flat l = body_flat (blocks_flat [] (map spelt_as_declared l.blocks)) l.program
