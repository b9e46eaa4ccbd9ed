-- Nested is flat.
use Rattle.std.proofs.Common.{◌≡◌, ◌↔◌, ℕ, Bool, false, cond, List, [], ◌∷◌, ◌++◌, Option, None, Some, map, filter, slice_get, refl, sym, ap, subst, ◌∙◌, append_assoc}
use Rattle.std.specs.List.{flat_map, AllByRecursion}
use Rattle.std.proofs.lemmas.List.{append-nil}
use Rattle.std.proofs.lemmas.List.Elements.{filter-append}
use Rattle.ps_base.specs.LetterCase.{folded}
use Rattle.ps_parser.specs.declared.name.Name.{Name}
use Rattle.ps_parser.specs.declared.heads.Heads.{Heads}
use Rattle.ps_parser.specs.declared.heads.Heads.TheVariants.{Block, Program}
use Rattle.ps_parser.specs.Parsing.{IsSourceWithin}
use Rattle.ps_parser.specs.declared.section.Part.{Part}
use Rattle.ps_parser.specs.declared.section.Part.TheVariants.{Input, Output, Local}
use Rattle.ps_parser.specs.declared.section.Declaration.{Declaration}
use Rattle.ps_parser.specs.declared.section.Section.{Section}
use Rattle.ps_parser.specs.Tree.{SourceTree}
use Rattle.ps_names.specs.declared.entry.Entry.{Entry}
use Rattle.ps_names.specs.declared.entry.Sort.{Sort}
use Rattle.ps_names.specs.declared.entry.TypeNamed.{TypeNamed}
use Rattle.ps_names.specs.declared.entry.TypeNamed.TheVariants as type_name
use Rattle.ps_names.specs.Names.{declares, sort_in, type_named, section_entries, entries, entry_of, is_input, is_output}
use Rattle.ps_names.specs.Uses.{statement_uses, called}
use Rattle.ps_names.proofs.Distinct.{none_left, none_right}
use Rattle.ps_derived.specs.declared.declared.Declared.{Declared}
use Rattle.ps_derived.specs.declared.library.Library.{Library}
use Rattle.ps_derived.specs.Bodies.{declared_names, inputs}
use Rattle.ps_derived.specs.Texts.{IsLibraryWithin}
use Rattle.ps_derived.specs.Renaming.{statement_renamed}
use Rattle.ps_derived.specs.Spelling.{as_declared, spelt_as_declared}
use Rattle.ps_derived.specs.Flat.{FlatBlock, block_in, declaration_flat, section_flat, body_flat, block_flat, blocks_flat, flat}
use Rattle.ps_derived.specs.declared.interface.Interface.{Interface}
use Rattle.ps_derived.specs.Interfaces.{interface_of}
use Rattle.ps_offences.specs.BlockRules.{typed_wrongly, misused, miscalled_by, called_wrongly, body_breaks, blocks_break, block_names, named_wrongly, text_too_large, block_offences}
use Rattle.ps_language_laws.specs.Paths.{is_among}
use Rattle.ps_language_laws.specs.Reading.{Values, Scan, Before, and_then}
use Rattle.ps_language_laws.specs.Equations.{Body}
use Rattle.ps_language_laws.specs.TextScans.{plain_body, inputs_among, begun, scan_of, Scanned}
use Rattle.ps_language_laws.specs.ByName.{by_name}
use Rattle.ps_language_laws.proofs.Named.{names_are_numbers}
use Rattle.ps_language_laws.specs.Nested.{body_of, bodies_of, program_of}
use Rattle.ps_language_laws.specs.Laws.{NestedIsFlat}
use Rattle.ps_language_laws.proofs.Pairs.{Pair, laid_of, bodies, laid_append, bodies_append}
use Rattle.ps_language_laws.proofs.FineCalls.{faces, StatementFine, statements_fine}
use Rattle.ps_language_laws.proofs.Together.{both, through, same_type, leaves_flat, holds_flat}
use Rattle.ps_language_laws.proofs.Spelt.{leaves_spelt, holds_spelt, fine_spelt}
use Rattle.ps_language_laws.proofs.Instances.{AllHave, all_have, block_same, sections_same}

-- ---- function blocks, one after the other

-- the statements of a body are fine over these function blocks
abbrev BodyFine : List Pair → SourceTree → Type 0
BodyFine ps s = AllByRecursion (StatementFine (laid_of ps) (declared_names s.sections)) s.statements

-- a function block laid flat over those before it, and what it means
abbrev pair_of : (ps : List Pair) (s : SourceTree) → BodyFine ps s → Pair
pair_of ps s fine =
    let ds = declared_names s.sections in
    let spelt = map (statement_renamed (as_declared ds)) s.statements in
    record {
      laid = block_flat (laid_of ps) (spelt_as_declared s);
      body = body_of (bodies ps) s;
      meant = record {
        name = refl;
        inputs_are = refl;
        leaves = λ path. sym (leaves_spelt (bodies ps) ds path s.statements) ∙ leaves_flat ps ds path spelt;
        holds = λ scan path before.
            through (same_type _ _ (sym (holds_spelt (bodies ps) ds path scan before s.statements))) (holds_flat ps ds path scan before spelt (fine_spelt (laid_of ps) ds s.statements fine));
      };
    }

-- each is fine over those before it
abbrev AllFine : List Pair → List SourceTree → Type 0
AllFine ps [] = Unit {0}
AllFine ps (s ∷ ss) = (fine : BodyFine ps s) × AllFine (ps ++ pair_of ps s fine ∷ []) ss

abbrev pairs_of : (ps : List Pair) (ss : List SourceTree) → AllFine ps ss → List Pair
pairs_of ps [] fine = ps
pairs_of ps (s ∷ ss) fine = pairs_of (ps ++ pair_of ps s fine.0 ∷ []) ss fine.1

laid_are : (ps : List Pair) (ss : List SourceTree) (fine : AllFine ps ss) → blocks_flat (laid_of ps) (map spelt_as_declared ss) ≡ laid_of (pairs_of ps ss fine)
laid_are ps [] fine = refl
laid_are ps (s ∷ ss) fine = ap (λ bs. blocks_flat bs (map spelt_as_declared ss)) (sym (laid_append ps (pair_of ps s fine.0 ∷ []))) ∙ laid_are (ps ++ pair_of ps s fine.0 ∷ []) ss fine.1

bodies_are : (ps : List Pair) (ss : List SourceTree) (fine : AllFine ps ss) → bodies_of (bodies ps) ss ≡ bodies (pairs_of ps ss fine)
bodies_are ps [] fine = refl
bodies_are ps (s ∷ ss) fine = ap (λ bs. bodies_of bs ss) (sym (bodies_append ps (pair_of ps s fine.0 ∷ []))) ∙ bodies_are (ps ++ pair_of ps s fine.0 ∷ []) ss fine.1

-- ---- what bodies see of them

faces_append : (bs cs : List FlatBlock) → faces (bs ++ cs) ≡ faces bs ++ faces cs
faces_append [] cs = refl
faces_append (b ∷ bs) cs = ap (λ l. record { name = b.name; scope = b.declared; inputs = inputs b.declared } ∷ l) (faces_append bs cs)

one_more_face : (ps : List Pair) (s : SourceTree) (fine : BodyFine ps s) → faces (laid_of (ps ++ pair_of ps s fine ∷ [])) ≡ faces (laid_of ps) ++ interface_of s ∷ []
one_more_face ps s fine = ap faces (laid_append ps (pair_of ps s fine ∷ [])) ∙ faces_append (laid_of ps) (block_flat (laid_of ps) (spelt_as_declared s) ∷ [])

faces_are : (ps : List Pair) (ss : List SourceTree) (fine : AllFine ps ss) → faces (laid_of (pairs_of ps ss fine)) ≡ faces (laid_of ps) ++ map interface_of ss
faces_are ps [] fine = sym (append-nil (faces (laid_of ps)))
faces_are ps (s ∷ ss) fine =
    faces_are (ps ++ pair_of ps s fine.0 ∷ []) ss fine.1 ∙ ap (λ l. l ++ map interface_of ss) (one_more_face ps s fine.0)
    ∙ append_assoc (faces (laid_of ps)) (interface_of s ∷ []) (map interface_of ss)

-- ---- where no rule is broken

-- the parts of what a body that breaks no rule has none of: its types, and its uses of names
record BodyUnbroken (names : List Name) (before : List Interface) (heads : Heads) (s : SourceTree) : Type 0 where
  types : flat_map (typed_wrongly heads names before) (declared_names s.sections) ≡ []
  uses : flat_map (misused before (declared_names s.sections)) (flat_map statement_uses s.statements) ≡ []

body_unbroken : (names : List Name) (before : List Interface) (heads : Heads) (s : SourceTree) → body_breaks names before heads s ≡ [] → BodyUnbroken names before heads s
body_unbroken names before heads s h =
    let ds = declared_names s.sections in
    let types = flat_map (typed_wrongly heads names before) ds in
    let uses = flat_map (misused before ds) (flat_map statement_uses s.statements) in
    let calls = flat_map (miscalled_by before ds) s.statements in
    let counts = flat_map (called_wrongly before (flat_map called s.statements) (map (λ (d : Declared). d.name) ds)) ds in
    let both_ = none_left (types ++ uses) calls (none_left (types ++ uses ++ calls) counts h) in
    record { types = none_left types uses both_; uses = none_right types uses both_ }

body_fine : (depth : ℕ) (names : List Name) (heads : Heads) (ps : List Pair) (s : SourceTree) → IsSourceWithin depth s → body_breaks names (faces (laid_of ps)) heads s ≡ [] → BodyFine ps s
body_fine depth names heads ps s within h =
    statements_fine (laid_of ps) (declared_names s.sections) s.statements within.grammatical.2 (body_unbroken names (faces (laid_of ps)) heads s h).uses

all_fine : (depth : ℕ) (names : List Name) (ps : List Pair) (ss : List SourceTree) → AllByRecursion (IsSourceWithin depth) ss → blocks_break names (faces (laid_of ps)) ss ≡ [] → AllFine ps ss
all_fine depth names ps [] within h = tt
all_fine depth names ps (s ∷ ss) within h =
    let later = blocks_break names (faces (laid_of ps) ++ interface_of s ∷ []) ss in
    let fine = body_fine depth names Block ps s within.0 (none_left (body_breaks names (faces (laid_of ps)) Block s) later h) in (
      fine,
      all_fine depth names (ps ++ pair_of ps s fine ∷ []) ss within.1
          (ap (λ l. blocks_break names l ss) (one_more_face ps s fine) ∙ none_right (body_breaks names (faces (laid_of ps)) Block s) later h),
    )

-- where their types fit, each has the instances of its flat source
pairs_have : (names : List Name) (before : List Interface) (ps : List Pair) (ss : List SourceTree) (fine : AllFine ps ss) → AllHave ps → blocks_break names before ss ≡ [] → AllHave (pairs_of ps ss fine)
pairs_have names before ps [] fine have h = have
pairs_have names before ps (s ∷ ss) fine have h =
    let later = blocks_break names (before ++ interface_of s ∷ []) ss in
    let body = body_unbroken names before Block s (none_left (body_breaks names before Block s) later h) in
    pairs_have names (before ++ interface_of s ∷ []) (ps ++ pair_of ps s fine.0 ∷ []) ss fine.1
    (all_have ps (pair_of ps s fine.0) have (λ path. block_same ps have path names before s body.types))
    (none_right (body_breaks names before Block s) later h)

-- ---- inputs and outputs of the program

as_they_are : (ds : List Declaration) → flat_map (λ d. d ∷ []) ds ≡ ds
as_they_are [] = refl
as_they_are (d ∷ ds) = ap (λ l. d ∷ l) (as_they_are ds)

-- what passes a test that no local passes stands in the flat source as in the program
module _ (test : Sort → Bool) (no_local : (t : Option TypeNamed) → test (sort_in Local t) ≡ false) where
  abbrev among : List Entry → List Entry
  among es = filter (λ (e : Entry). test e.sort) es

  locals_none : (ty : Name) (ns : List Name) → among (map (entry_of Local ty) ns) ≡ []
  locals_none ty [] = refl
  locals_none ty (n ∷ ns) =
      ap (λ b. cond b (entry_of Local ty n ∷ among (map (entry_of Local ty) ns)) (among (map (entry_of Local ty) ns))) (no_local (type_named ty.text))
      ∙ locals_none ty ns

  local_declarations_none : (ds : List Declaration) → among (flat_map (declares Local) ds) ≡ []
  local_declarations_none [] = refl
  local_declarations_none (d ∷ ds) =
      filter-append (λ (e : Entry). test e.sort) (declares Local d) (flat_map (declares Local) ds)
      ∙ (λ i. locals_none d.ty d.names i ++ local_declarations_none ds i)

  section_among : (bs : List FlatBlock) (part : Part) (ds : List Declaration) →
      among (flat_map (declares part) ds) ≡ among (flat_map (declares part) (flat_map (λ d. declaration_flat d (block_in bs part d.ty)) ds))
  section_among bs Input ds = ap (λ l. among (flat_map (declares Input) l)) (sym (as_they_are ds))
  section_among bs Output ds = ap (λ l. among (flat_map (declares Output) l)) (sym (as_they_are ds))
  section_among bs Local ds = local_declarations_none ds ∙ sym (local_declarations_none (flat_map (λ d. declaration_flat d (block_in bs Local d.ty)) ds))

  pub program_among : (bs : List FlatBlock) (ss : List Section) → among (flat_map section_entries ss) ≡ among (flat_map section_entries (map (section_flat bs) ss))
  program_among bs [] = refl
  program_among bs (s ∷ ss) =
      filter-append (λ (e : Entry). test e.sort) (section_entries s) (flat_map section_entries ss)
      ∙ (λ i. section_among bs s.part s.declarations i ++ program_among bs ss i)
      ∙ sym (filter-append (λ (e : Entry). test e.sort) (section_entries (section_flat bs s)) (flat_map section_entries (map (section_flat bs) ss)))

no_local_input : (t : Option TypeNamed) → is_input (sort_in Local t) ≡ false
no_local_input None = refl
no_local_input (Some (type_name.Signal t)) = refl
no_local_input (Some (type_name.Block k)) = refl

no_local_output : (t : Option TypeNamed) → is_output (sort_in Local t) ≡ false
no_local_output None = refl
no_local_output (Some (type_name.Signal t)) = refl
no_local_output (Some (type_name.Block k)) = refl

-- the outputs of the program are those of its flat source
pub outputs_same : (l : Library) → filter (λ (e : Entry). is_output e.sort) (entries l.program) ≡ filter (λ (e : Entry). is_output e.sort) (entries (flat l))
outputs_same l = program_among is_output no_local_output (blocks_flat [] (map spelt_as_declared l.blocks)) l.program.sections

-- ---- programs that mean the same

pub record MeanTheSame (es fs : List Entry) (a b : Body) : Type 0 where
  pub inputs : inputs_among es ≡ inputs_among fs
  pub instances : a.instances [] ≡ b.instances []
  pub leaves : a.leaves [] ≡ b.leaves []
  pub holds : (scan : Scan) (before : Before) → a.Holds scan [] before ↔ b.Holds scan [] before

begun_same : (es fs : List Entry) → inputs_among es ≡ inputs_among fs → begun es ≡ begun fs
begun_same es fs h = (λ i. record { driven = map (λ (e : Entry). folded e.name.text) (h i); called = [] })

pub scanned_same : (es fs : List Entry) (a b : Body) → MeanTheSame es fs a b → (old : Values) (ins : List Bool) (dt : ℕ) (new : Values) →
    Scanned es a old ins dt new → Scanned fs b old ins dt new
scanned_same es fs a b m old ins dt new h = record {
  inputs = λ k e at. h.inputs k e (ap (λ l. slice_get l k) m.inputs ∙ at);
  statements =
      subst (b.Holds (scan_of b old dt new) []) (begun_same es fs m.inputs)
      (subst (λ x. b.Holds (record { old = old; new = new; dt = dt; instances = x }) [] (begun es)) m.instances
      ((m.holds (scan_of a old dt new) (begun es)).0 h.statements));
  undriven = λ p none. h.undriven p ((λ i. is_among p (and_then (begun_same es fs m.inputs i) (m.leaves i)).driven) ∙ none);
}

pub other_way : (es fs : List Entry) (a b : Body) → MeanTheSame es fs a b → MeanTheSame fs es b a
other_way es fs a b m = record {
  inputs = sym m.inputs;
  instances = sym m.instances;
  leaves = sym m.leaves;
  holds = λ scan before. let h = m.holds scan before in (h.1, h.0);
}

-- the program means what it means laid flat
program_same : (ps : List Pair) (s : SourceTree) → AllHave ps → BodyFine ps s → MeanTheSame (entries s) (entries (body_flat (laid_of ps) s)) (body_of (bodies ps) s) (plain_body (body_flat (laid_of ps) s))
program_same ps s have fine = record {
  inputs = program_among is_input no_local_input (laid_of ps) s.sections;
  instances = sections_same ps have [] s.sections;
  leaves = leaves_flat ps (declared_names s.sections) [] s.statements;
  holds = λ scan before. holds_flat ps (declared_names s.sections) [] scan before s.statements fine;
}

-- what the function blocks and the program break, of a text that breaks no rule
record TextUnbroken (l : Library) : Type 0 where
  blocks : blocks_break (block_names l.blocks) [] l.blocks ≡ []
  program : body_breaks (block_names l.blocks) (map interface_of l.blocks) Program l.program ≡ []

text_unbroken : (l : Library) → block_offences l ≡ [] → TextUnbroken l
text_unbroken l h =
    let wrong = named_wrongly (block_names l.blocks) in
    let blocks = blocks_break (block_names l.blocks) [] l.blocks in
    let program = body_breaks (block_names l.blocks) (map interface_of l.blocks) Program l.program in
    let all = none_left (wrong ++ blocks ++ program) (text_too_large l) h in
    record { blocks = none_right wrong blocks (none_left (wrong ++ blocks) program all); program = none_right (wrong ++ blocks) program all }

pub text_same : (depth : ℕ) (l : Library) → IsLibraryWithin depth l → block_offences l ≡ [] → MeanTheSame (entries l.program) (entries (flat l)) (program_of l) (plain_body (flat l))
text_same depth l within h =
    let names = block_names l.blocks in
    let unbroken = text_unbroken l h in
    let fine = all_fine depth names [] l.blocks within.blocks unbroken.blocks in
    let ps = pairs_of [] l.blocks fine in
    let program = body_fine depth names Program ps l.program within.program (ap (λ x. body_breaks names x Program l.program) (faces_are [] l.blocks fine) ∙ unbroken.program) in
    subst (λ b. MeanTheSame (entries l.program) (entries (flat l)) b (plain_body (flat l))) (sym (ap (λ bs. body_of bs l.program) (bodies_are [] l.blocks fine)))
    (subst (λ bs. MeanTheSame (entries l.program) (entries (body_flat bs l.program)) (body_of (bodies ps) l.program) (plain_body (body_flat bs l.program))) (sym (laid_are [] l.blocks fine))
    (program_same ps l.program (pairs_have names [] [] l.blocks fine tt unbroken.blocks) program))

pub nested_is_flat : NestedIsFlat
nested_is_flat depth l net within unbroken stands old ins dt new =
    let same = text_same depth l within unbroken in
    let was = by_name (entries (flat l)) old in
    let is = by_name (entries (flat l)) new in
    let names = scanned_same (entries (flat l)) (entries l.program) (plain_body (flat l)) (program_of l) (other_way (entries l.program) (entries (flat l)) (program_of l) (plain_body (flat l)) same) was ins dt is in
    let flatly = scanned_same (entries l.program) (entries (flat l)) (program_of l) (plain_body (flat l)) same was ins dt is in
    through (names_are_numbers (flat l) net stands old ins dt new) (both ((λ x. x), (λ x. x)) (names, flatly))
