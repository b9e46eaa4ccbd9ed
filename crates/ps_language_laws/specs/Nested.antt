-- What a scan of a text with function blocks means, by paths, without its flat source. Inside the instance G of a
-- function block each input has the value of its argument, the statements of the body hold of the names after `g.`,
-- and an output Y that is read after the dot is the signal `g.y`.
use Rattle.std.specs.Prelude.{ℕ, Bool, true, false, List, [], ◌∷◌, ◌++◌}
use Rattle.std.specs.List.{flat_map}
use Rattle.ps_model.specs.declared.named.Instance.{Instance}
use Rattle.ps_parser.specs.declared.name.Name.{Name}
use Rattle.ps_parser.specs.declared.section.Part.{Part}
use Rattle.ps_parser.specs.declared.section.Part.TheVariants.{Local}
use Rattle.ps_parser.specs.Tree.{SourceTree}
use Rattle.ps_names.specs.Names.{entry_of, entries}
use Rattle.ps_derived.specs.declared.declared.Declared.{Declared}
use Rattle.ps_derived.specs.declared.library.Library.{Library}
use Rattle.ps_derived.specs.Bodies.{same, declared_names, inputs}
use Rattle.ps_language_laws.specs.Paths.{at, copy_at}
use Rattle.ps_language_laws.specs.Reading.{Values}
use Rattle.ps_language_laws.specs.Equations.{Body, Callee, standard, derived, statements_leave, StatementsHold}
use Rattle.ps_language_laws.specs.TextScans.{instance_at, Scanned}

-- ---- what a name is

-- one where the test holds, and else the other
abbrev pub chosen : Bool → Callee → Callee → Callee
chosen true a b = a
chosen false a b = b

-- the first of these function blocks with this name
abbrev pub block_named : List Body → Name → Callee
block_named [] ty = standard
block_named (b ∷ bs) ty = chosen (same ty b.name) (derived b) (block_named bs ty)

-- what a declaration makes of its name: function blocks are types in VAR alone
abbrev pub callee_in : List Body → Part → Name → Callee
callee_in blocks Local ty = block_named blocks ty
callee_in blocks _ ty = standard

-- what a name of a body is, by its first declaration
abbrev pub callee_of : List Body → List Declared → Name → Callee
callee_of blocks [] n = standard
callee_of blocks (d ∷ ds) n = chosen (same n d.name) (callee_in blocks d.part d.ty) (callee_of blocks ds n)

-- ---- the instances of the thirteen kinds

-- the instance that a declared name is in the copy at a path, or those in the copy that it has there
abbrev pub instances_by : List ℕ → Declared → Callee → List Instance
instances_by path d standard = instance_at (at path d.name) (entry_of d.part d.ty d.name).sort
instances_by path d (derived b) = b.instances (copy_at path d.name)

-- those of the copy at a path of a body that declares these names
abbrev pub instances_of : List Body → List Declared → List ℕ → List Instance
instances_of blocks ds path = flat_map (λ d. instances_by path d (callee_in blocks d.part d.ty)) ds

-- ---- bodies

-- a function block or the program, with these function blocks before it
abbrev pub body_of : List Body → SourceTree → Body
body_of before s =
    let ds = declared_names s.sections in
    record {
      name = s.name;
      inputs = inputs ds;
      instances = instances_of before ds;
      leaves = λ path. statements_leave (callee_of before ds) path s.statements;
      Holds = λ scan path stands. StatementsHold (callee_of before ds) path scan stands s.statements;
    }

-- these function blocks, each with those that stand before it
abbrev pub bodies_of : List Body → List SourceTree → List Body
bodies_of before [] = before
bodies_of before (b ∷ bs) = bodies_of (before ++ body_of before b ∷ []) bs

-- the program, with all function blocks before it
abbrev pub program_of : Library → Body
program_of l = body_of (bodies_of [] l.blocks) l.program

-- The map new is what a scan of the text with these inputs leaves, dt ms after the scan that left old.
abbrev pub Nested : Library → Values → List Bool → ℕ → Values → Type 0
Nested l old ins dt new = Scanned (entries l.program) (program_of l) old ins dt new
