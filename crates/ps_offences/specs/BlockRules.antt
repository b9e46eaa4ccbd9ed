-- The rules B on function blocks: what breaks each of them, and where. They are tried on every body, also on one that
-- no instance uses. A rule may list a place where a lower rule is broken too, since the lowest rule decides.
use Rattle.std.specs.Prelude.{Bool, ◌&&◌, ◌||◌, ◌==◌, not, nat_le, List, [], ◌∷◌, ◌++◌, Option, None, Some, map, length}
use Rattle.std.specs.Prelude.{is_some, count_by, codes}
use Rattle.std.specs.List.{flat_map, list_any}
use Rattle.ps_base.specs.declared.failing.Refusal.{Refusal}
use Rattle.ps_base.specs.declared.failing.Rule.TheVariants.{B1, B2, B3, B4, B5}
use Rattle.ps_base.specs.LetterCase.{is_same_name}
use Rattle.ps_parser.specs.declared.name.Name.{Name}
use Rattle.ps_parser.specs.declared.section.Part.{Part}
use Rattle.ps_parser.specs.declared.section.Part.TheVariants.{Input, Output, Local}
use Rattle.ps_parser.specs.declared.heads.Heads.{Heads}
use Rattle.ps_parser.specs.declared.heads.Heads.TheVariants.{Program, Block}
use Rattle.ps_parser.specs.Tree.{ArgumentTree, StatementTree, Assign, Call, SourceTree}
use Rattle.ps_names.specs.Offences.{offence, when, unless}
use Rattle.ps_names.specs.Names.{type_named}
use Rattle.ps_names.specs.Uses.{Use, reads, reads_pin, drives, drives_pin, runs, gives, strays, statement_uses, called}
use Rattle.ps_names.specs.Rules.{repeated}
use Rattle.ps_derived.specs.declared.declared.Declared.{Declared}
use Rattle.ps_derived.specs.declared.library.Library.{Library}
use Rattle.ps_derived.specs.declared.limits.TheConstants.{MOST_BLOCKS, MOST_FLAT_NAMES, MOST_FLAT_STATEMENTS}
use Rattle.ps_derived.specs.Bodies.{same, declared_names}
use Rattle.ps_derived.specs.Flat.{flat}
use Rattle.ps_derived.specs.Limits.{name_count}
use Rattle.ps_derived.specs.declared.interface.Interface.{Interface}
use Rattle.ps_derived.specs.Interfaces.{interface_of, interface_named, derived_by, derived_of, declares_input}
use Rattle.ps_derived.specs.Interfaces.{declares_output}

-- ---- B1: a function block has the name of an earlier one, of a kind, SAFEBOOL or BOOL

-- a name stands for a type of the language
abbrev pub names_type : Name → Bool
names_type n = is_some (type_named n.text)

-- a function block that has the name of a type of the language
abbrev pub named_as_type : Name → List Refusal
named_as_type n = when (names_type n) (offence B1 n.place ∷ [])

-- of function blocks with these names
abbrev pub named_wrongly : List Name → List Refusal
named_wrongly names = repeated B1 [] names ++ flat_map named_as_type names

-- ---- B2: a type does not fit its place

-- a name is SAFEBOOL or BOOL
abbrev pub names_signal : Name → Bool
names_signal n = is_same_name n.text (codes "SAFEBOOL") || is_same_name n.text (codes "BOOL")

-- a name is one of these
abbrev pub is_one_of : List Name → Name → Bool
is_one_of names n = list_any (same n) names

-- in VAR_INPUT and VAR_OUTPUT a function block has SAFEBOOL and BOOL alone, and the program has none of the function
-- blocks
abbrev pub fits_pin : Heads → List Name → Name → Bool
fits_pin Block names ty = names_signal ty
fits_pin Program names ty = not (is_one_of names ty)

-- in VAR a function block is a type where it stands before the body
abbrev pub fits_local : List Name → List Interface → Name → Bool
fits_local names before ty = is_some (interface_named before ty) || not (is_one_of names ty)

-- a type fits its part: VAR_INPUT and VAR_OUTPUT, or VAR
abbrev pub fits_part : Heads → List Name → List Interface → Part → Name → Bool
fits_part heads names before Input ty = fits_pin heads names ty
fits_part heads names before Output ty = fits_pin heads names ty
fits_part heads names before Local ty = fits_local names before ty

-- the type of a declared name fits
abbrev pub fits_in : Heads → List Name → List Interface → Declared → Bool
fits_in heads names before d = fits_part heads names before d.part d.ty

-- a declared name whose type does not fit
abbrev pub typed_wrongly : Heads → List Name → List Interface → Declared → List Refusal
typed_wrongly heads names before d = unless (fits_in heads names before d) (offence B2 d.ty.place ∷ [])

-- ---- B3: a use of a derived instance does not fit its function block

-- what is read after the dot of a name that is an instance of this function block, if it is one, is an output of it
abbrev pub misread : Name → Option Interface → List Refusal
misread q None = []
misread q (Some b) = unless (declares_output b q) (offence B3 q.place ∷ [])

-- nothing after the dot of a derived instance is a target
abbrev pub misdriven : Name → Option Interface → List Refusal
misdriven q None = []
misdriven q (Some b) = offence B3 q.place ∷ []

-- a use of a name that does not fit
abbrev pub misused : List Interface → List Declared → Use → List Refusal
misused before ds (reads_pin n q) = misread q (derived_of before ds n)
misused before ds (drives_pin n q) = misdriven q (derived_of before ds n)
misused before ds (reads n) = []
misused before ds (drives n) = []
misused before ds (runs n) = []
misused before ds (gives n q) = []
misused before ds (strays place) = []

-- an argument whose pin is no input of the function block
abbrev pub misgiven : Interface → ArgumentTree → List Refusal
misgiven b a = unless (declares_input b a.pin) (offence B3 a.pin.place ∷ [])

-- some of these inputs is none of these pins
abbrev pub leaves_out : List Name → List Name → Bool
leaves_out inputs pins = list_any (λ x. not (is_one_of pins x)) inputs

-- a call of a name that is an instance of this function block, if it is one: it names a pin twice, or one that is no
-- input, or it leaves an input out
abbrev pub miscalled : Name → List ArgumentTree → Option Interface → List Refusal
miscalled n args None = []
miscalled n args (Some b) =
    let pins = map (λ (a : ArgumentTree). a.pin) args in
    repeated B3 [] pins ++ flat_map (misgiven b) args ++ when (leaves_out b.inputs pins) (offence B3 n.place ∷ [])

-- a statement that is such a call
abbrev pub miscalled_by : List Interface → List Declared → StatementTree → List Refusal
miscalled_by before ds (Assign t s) = []
miscalled_by before ds (Call n args) = miscalled n args (derived_of before ds n)

-- ---- B5: a derived instance is not called exactly once, or its name is declared again

-- a name stands exactly once among these
abbrev pub is_once : Name → List Name → Bool
is_once n ns = count_by (same n) ns == 1

-- a derived instance among these declared names, where these names are called
abbrev pub called_wrongly : List Interface → List Name → List Name → Declared → List Refusal
called_wrongly before calls declared d =
    when (is_some (derived_by before d)) (unless (is_once d.name calls && is_once d.name declared) (offence B5 d.name.place ∷ []))

-- ---- B4: the text is too large

-- it has at most 64 function blocks, and its flat source at most 4,000 declared names and 20,000 statements
abbrev pub is_text_within : Library → Bool
is_text_within l = nat_le (length l.blocks) MOST_BLOCKS && (nat_le (name_count (flat l)) MOST_FLAT_NAMES && nat_le (length (flat l).statements) MOST_FLAT_STATEMENTS)

-- of a text, at the program's name
abbrev pub text_too_large : Library → List Refusal
text_too_large l = unless (is_text_within l) (offence B4 l.program.name.place ∷ [])

-- ---- all rules

-- what a body breaks, where the function blocks of the text have these names and these stand before the body
abbrev pub body_breaks : List Name → List Interface → Heads → SourceTree → List Refusal
body_breaks names before heads s =
    let ds = declared_names s.sections in
    flat_map (typed_wrongly heads names before) ds
    ++ flat_map (misused before ds) (flat_map statement_uses s.statements)
    ++ flat_map (miscalled_by before ds) s.statements
    ++ flat_map (called_wrongly before (flat_map called s.statements) (map (λ (d : Declared). d.name) ds)) ds

-- what these function blocks break, one after the other
abbrev pub blocks_break : List Name → List Interface → List SourceTree → List Refusal
blocks_break names before [] = []
blocks_break names before (b ∷ bs) = body_breaks names before Block b ++ blocks_break names (before ++ interface_of b ∷ []) bs

-- the names of these function blocks
abbrev pub block_names : List SourceTree → List Name
block_names blocks = map (λ (b : SourceTree). b.name) blocks

-- every offence of a text against the rules B
abbrev pub block_offences : Library → List Refusal
block_offences l =
    named_wrongly (block_names l.blocks)
    ++ blocks_break (block_names l.blocks) [] l.blocks
    ++ body_breaks (block_names l.blocks) (map interface_of l.blocks) Program l.program
    ++ text_too_large l
