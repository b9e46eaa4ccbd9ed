-- What the counts of a flat source are sums of, where the sizes of the function blocks before are known.
use Rattle.std.specs.Prelude.{ℕ, ◌+◌, List, Option, None, Some, slice_get}
use Rattle.ps_parser.specs.Tree.{StatementTree, Assign, Call}
use Rattle.ps_derived.specs.declared.declared.Declared.{Declared}
use Rattle.ps_derived.specs.declared.sizes.BlockSize.{BlockSize}
use Rattle.ps_derived.specs.Bodies.{first_declared, made_by}

-- the item at a place, if there is one
abbrev pub item_at : {X : Type 0} → List X → Option ℕ → Option X
item_at xs None = None
item_at xs (Some k) = slice_get xs k

-- the size of the block of which a declaration makes an instance, if there is one and it does
abbrev pub size_made : List BlockSize → Option Declared → Option BlockSize
size_made sizes o = made_by (λ (s : BlockSize). s.name) sizes o

-- how many declared names stand in the place of a declared name
abbrev pub names_weight : Option BlockSize → ℕ
names_weight None = 1
names_weight (Some s) = s.names

-- the same by the declaration
abbrev pub declared_weight : List BlockSize → Declared → ℕ
declared_weight sizes d = names_weight (size_made sizes (Some d))

-- how many statements stand in the place of a call
abbrev pub call_weight : Option BlockSize → ℕ
call_weight None = 1
call_weight (Some s) = s.inputs + s.statements

-- how many statements stand in the place of a statement, among these declarations
abbrev pub statement_weight : List BlockSize → List Declared → StatementTree → ℕ
statement_weight sizes ds (Assign t s) = 1
statement_weight sizes ds (Call n args) = call_weight (size_made sizes (first_declared ds n))
