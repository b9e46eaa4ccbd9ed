-- The instances of the thirteen kinds in a text are those of its flat source.
use Rattle.std.proofs.Common.{◌≡◌, ℕ, Bool, true, false, ◌||◌, List, [], ◌∷◌, ◌++◌, Option, None, Some, map, refl, sym, ap, ◌∙◌, if◌then◌else◌}
use Rattle.std.specs.List.{flat_map}
use Rattle.std.specs.Prelude.{codes}
use Rattle.std.specs.Option.{option_map}
use Rattle.std.proofs.lemmas.Bool.{false≢true}
use Rattle.std.proofs.lemmas.Grind.{flat_map-append}
use Rattle.std.proofs.lemmas.List.{append-nil}
use Rattle.ps_base.specs.LetterCase.{is_same_name}
use Rattle.ps_base.specs.declared.failing.Refusal.{Refusal}
use Rattle.ps_model.specs.declared.named.Instance as model_instance
use Rattle.ps_model.specs.declared.kind.Ty.TheVariants as kind_of_signal
use Rattle.ps_parser.specs.declared.name.Name.{Name}
use Rattle.ps_parser.specs.declared.heads.Heads.TheVariants.{Block}
use Rattle.ps_parser.specs.declared.section.Part.{Part}
use Rattle.ps_parser.specs.declared.section.Part.TheVariants.{Input, Output, Local}
use Rattle.ps_parser.specs.declared.section.Declaration.{Declaration}
use Rattle.ps_parser.specs.declared.section.Section.{Section}
use Rattle.ps_parser.specs.Tree.{SourceTree}
use Rattle.ps_names.specs.declared.entry.Entry.{Entry}
use Rattle.ps_names.specs.declared.entry.TypeNamed.{TypeNamed}
use Rattle.ps_names.specs.declared.entry.TypeNamed.TheVariants as type_name
use Rattle.ps_names.specs.Names as names
use Rattle.ps_names.specs.Names.{entry_of, sort_in, type_named, section_entries, entries}
use Rattle.ps_names.specs.Offences.{unless}
use Rattle.ps_names.proofs.Distinct.{none_left, none_right}
use Rattle.ps_derived.specs.declared.declared.Declared.{Declared}
use Rattle.ps_derived.specs.Bodies.{same, is_input, is_output, is_local, declared_as, declares, section_declares, declared_names}
use Rattle.ps_derived.specs.Dotted.{inside, declaration_inside}
use Rattle.ps_derived.specs.Flat.{FlatBlock, block_in, declarations_in, copy_declares, declaration_flat, section_flat, block_flat}
use Rattle.ps_derived.specs.declared.interface.Interface.{Interface}
use Rattle.ps_offences.specs.BlockRules.{names_signal, typed_wrongly}
use Rattle.ps_language_laws.specs.Paths.{at, copy_at}
use Rattle.ps_language_laws.specs.Equations.{standard, derived}
use Rattle.ps_language_laws.specs.TextScans.{instance_at, instances_in}
use Rattle.ps_language_laws.specs.Nested.{callee_in, instances_by, instances_of}
use Rattle.ps_language_laws.proofs.PathNames.{at_inside}
use Rattle.ps_language_laws.proofs.Pairs.{Pair, laid_of, bodies, Looked, nothing, found, laid_there, callee_there, either, look_named, laid_in, callee_is}

-- what these declarations declare as locals
abbrev pub as_locals : List Declaration → List Entry
as_locals ds = flat_map (names.declares Local) ds

-- what a copy of a function block declares in its flat source
abbrev pub copied_entries : FlatBlock → List Entry
copied_entries b =
    let sections = b.flat.sections in
    as_locals (declarations_in is_input sections ++ (declarations_in is_output sections ++ declarations_in is_local sections))

-- the instances of a function block are those of its flat source
abbrev pub HasInstances : Pair → Type 0
HasInstances p = (path : List ℕ) → p.body.instances path ≡ instances_in path (copied_entries p.laid)

-- of each
abbrev pub AllHave : List Pair → Type 0
AllHave [] = Unit {0}
AllHave (p ∷ ps) = HasInstances p × AllHave ps

pub all_have : (ps : List Pair) (p : Pair) → AllHave ps → HasInstances p → AllHave (ps ++ p ∷ [])
all_have [] p h one = (one, tt)
all_have (q ∷ ps) p h one = (h.0, all_have ps p h.1 one)

-- what is found has its own
abbrev FoundHas : Looked → Type 0
FoundHas nothing = Unit {0}
FoundHas (found p) = HasInstances p

found_has : (ps : List Pair) (ty : Name) → AllHave ps → FoundHas (look_named ps ty)
found_has [] ty h = tt
found_has (p ∷ ps) ty h = by (same ty p.laid.name) (found_has ps ty h.1)
  where
    by : (b : Bool) → FoundHas (look_named ps ty) → FoundHas (either b (found p) (look_named ps ty))
    by true rest = h.0
    by false rest = rest

-- ---- inside an instance

module _ (path : List ℕ) (g : Name) where
  names_inside : (ty : Name) (ns : List Name) → instances_in path (map (entry_of Local ty) (map (inside g) ns)) ≡ instances_in (copy_at path g) (map (entry_of Local ty) ns)
  names_inside ty [] = refl
  names_inside ty (n ∷ ns) = (λ i. instance_at (at_inside path g n i) (sort_in Local (type_named ty.text)) ++ names_inside ty ns i)

  pub declared_inside : (ds : List Declaration) → instances_in path (as_locals (map (declaration_inside g) ds)) ≡ instances_in (copy_at path g) (as_locals ds)
  declared_inside [] = refl
  declared_inside (d ∷ ds) =
      flat_map-append (λ (e : Entry). instance_at (at path e.name) e.sort) (names.declares Local (declaration_inside g d)) (as_locals (map (declaration_inside g) ds))
      ∙ (λ i. names_inside d.ty d.names i ++ declared_inside ds i)
      ∙ sym (flat_map-append (λ (e : Entry). instance_at (at (copy_at path g) e.name) e.sort) (names.declares Local d) (as_locals ds))

-- ---- declarations of a body

module _ (ps : List Pair) (have : AllHave ps) (path : List ℕ) where
  abbrev by_declared : Declared → List model_instance.Instance
  by_declared d = instances_by path d (callee_in (bodies ps) d.part d.ty)

  abbrev by_entry : Entry → List model_instance.Instance
  by_entry e = instance_at (at path e.name) e.sort

  -- names that are no derived instances
  names_plain : (part : Part) (ty : Name) (ns : List Name) →
      flat_map (λ d. instances_by path d standard) (map (declared_as part ty) ns) ≡ instances_in path (map (entry_of part ty) ns)
  names_plain part ty [] = refl
  names_plain part ty (n ∷ ns) = ap (λ l. instance_at (at path n) (sort_in part (type_named ty.text)) ++ l) (names_plain part ty ns)

  -- names that are derived instances
  names_derived : (p : Pair) (ty : Name) (ns : List Name) → HasInstances p →
      flat_map (λ d. instances_by path d (derived p.body)) (map (declared_as Local ty) ns) ≡ instances_in path (as_locals (flat_map (copy_declares p.laid) ns))
  names_derived p ty [] has = refl
  names_derived p ty (n ∷ ns) has =
      let sections = p.laid.flat.sections in
      let copied = declarations_in is_input sections ++ (declarations_in is_output sections ++ declarations_in is_local sections) in
      (λ i. (has (copy_at path n) ∙ sym (declared_inside path n copied)) i ++ names_derived p ty ns has i)
      ∙ sym (flat_map-append by_entry (as_locals (copy_declares p.laid n)) (as_locals (flat_map (copy_declares p.laid) ns)))
      ∙ ap (flat_map by_entry) (sym (flat_map-append (names.declares Local) (copy_declares p.laid n) (flat_map (copy_declares p.laid) ns)))

  by_looked : (d : Declaration) (o : Looked) → FoundHas o →
      flat_map (λ x. instances_by path x (callee_there o)) (declares Local d) ≡ instances_in path (as_locals (declaration_flat d (laid_there o)))
  by_looked d nothing has = names_plain Local d.ty d.names ∙ ap (flat_map by_entry) (sym (append-nil (names.declares Local d)))
  by_looked d (found p) has = names_derived p d.ty d.names has

  one_callee : (part : Part) (ty : Name) (ns : List Name) →
      flat_map by_declared (map (declared_as part ty) ns) ≡ flat_map (λ d. instances_by path d (callee_in (bodies ps) part ty)) (map (declared_as part ty) ns)
  one_callee part ty [] = refl
  one_callee part ty (n ∷ ns) = ap (λ l. instances_by path (declared_as part ty n) (callee_in (bodies ps) part ty) ++ l) (one_callee part ty ns)

  local_declaration : (d : Declaration) → flat_map by_declared (declares Local d) ≡ instances_in path (as_locals (declaration_flat d (block_in (laid_of ps) Local d.ty)))
  local_declaration d =
      one_callee Local d.ty d.names
      ∙ ap (λ c. flat_map (λ x. instances_by path x c) (declares Local d)) (callee_is ps Local d.ty)
      ∙ by_looked d (look_named ps d.ty) (found_has ps d.ty have)
      ∙ sym (ap (λ o. instances_in path (as_locals (declaration_flat d o))) (laid_in ps Local d.ty))

  abbrev locals_flat : List Declaration → List Declaration
  locals_flat ds = flat_map (λ d. declaration_flat d (block_in (laid_of ps) Local d.ty)) ds

  local_declarations : (ds : List Declaration) → flat_map by_declared (flat_map (declares Local) ds) ≡ instances_in path (as_locals (locals_flat ds))
  local_declarations [] = refl
  local_declarations (d ∷ ds) =
      let one = declaration_flat d (block_in (laid_of ps) Local d.ty) in
      flat_map-append by_declared (declares Local d) (flat_map (declares Local) ds)
      ∙ (λ i. local_declaration d i ++ local_declarations ds i)
      ∙ sym (flat_map-append by_entry (as_locals one) (as_locals (locals_flat ds)))
      ∙ ap (flat_map by_entry) (sym (flat_map-append (names.declares Local) one (locals_flat ds)))

  -- inputs and outputs are no instances
  pins_none : (part : Part) → is_local part ≡ false → (ty : Name) (ns : List Name) → flat_map by_declared (map (declared_as part ty) ns) ≡ []
  pins_none part h ty [] = refl
  pins_none Local h ty (n ∷ ns) = absurd (false≢true (sym h))
  pins_none Input h ty (n ∷ ns) = (λ i. input_none (type_named ty.text) i ++ pins_none Input h ty ns i)
    where
      input_none : (t : Option TypeNamed) → instance_at (at path n) (sort_in Input t) ≡ []
      input_none None = refl
      input_none (Some (type_name.Signal t)) = refl
      input_none (Some (type_name.Block k)) = refl
  pins_none Output h ty (n ∷ ns) = (λ i. output_none (type_named ty.text) i ++ pins_none Output h ty ns i)
    where
      output_none : (t : Option TypeNamed) → instance_at (at path n) (sort_in Output t) ≡ []
      output_none None = refl
      output_none (Some (type_name.Signal t)) = refl
      output_none (Some (type_name.Block k)) = refl

  -- ---- sections of the program

  abbrev flat_in : Part → List Declaration → List Declaration
  flat_in part ds = flat_map (λ d. declaration_flat d (block_in (laid_of ps) part d.ty)) ds

  section_as : (part : Part) (ds : List Declaration) → flat_map by_declared (flat_map (declares part) ds) ≡ instances_in path (flat_map (names.declares part) (flat_in part ds))
  section_as Local ds = local_declarations ds
  section_as Input [] = refl
  section_as Input (d ∷ ds) =
      flat_map-append by_declared (declares Input d) (flat_map (declares Input) ds)
      ∙ (λ i. (one_callee Input d.ty d.names ∙ names_plain Input d.ty d.names) i ++ section_as Input ds i)
      ∙ sym (flat_map-append by_entry (names.declares Input d) (flat_map (names.declares Input) (flat_in Input ds)))
  section_as Output [] = refl
  section_as Output (d ∷ ds) =
      flat_map-append by_declared (declares Output d) (flat_map (declares Output) ds)
      ∙ (λ i. (one_callee Output d.ty d.names ∙ names_plain Output d.ty d.names) i ++ section_as Output ds i)
      ∙ sym (flat_map-append by_entry (names.declares Output d) (flat_map (names.declares Output) (flat_in Output ds)))

  pub sections_same : (ss : List Section) → flat_map by_declared (declared_names ss) ≡ instances_in path (flat_map section_entries (map (section_flat (laid_of ps)) ss))
  sections_same [] = refl
  sections_same (s ∷ ss) =
      flat_map-append by_declared (section_declares s) (declared_names ss)
      ∙ (λ i. section_as s.part s.declarations i ++ sections_same ss i)
      ∙ sym (flat_map-append by_entry (section_entries (section_flat (laid_of ps) s)) (flat_map section_entries (map (section_flat (laid_of ps)) ss)))

  -- ---- sections of a function block

  abbrev where_in : (Part → Bool) → Part → List Declaration → List Declaration
  where_in is_part part ds = if is_part part then flat_in part ds else []

  pins_of : (part : Part) → is_local part ≡ false → (ds : List Declaration) → flat_map by_declared (flat_map (declares part) ds) ≡ []
  pins_of part h [] = refl
  pins_of part h (d ∷ ds) = flat_map-append by_declared (declares part d) (flat_map (declares part) ds) ∙ (λ i. pins_none part h d.ty d.names i ++ pins_of part h ds i)

  own_in : (part : Part) (ds : List Declaration) → flat_map by_declared (flat_map (declares part) ds) ≡ instances_in path (as_locals (where_in is_local part ds))
  own_in Local ds = local_declarations ds
  own_in Input ds = pins_of Input refl ds
  own_in Output ds = pins_of Output refl ds

  own_same : (ss : List Section) → flat_map by_declared (declared_names ss) ≡ instances_in path (as_locals (declarations_in is_local (map (section_flat (laid_of ps)) ss)))
  own_same [] = refl
  own_same (s ∷ ss) =
      let one = where_in is_local s.part s.declarations in
      let rest = declarations_in is_local (map (section_flat (laid_of ps)) ss) in
      flat_map-append by_declared (section_declares s) (declared_names ss)
      ∙ (λ i. own_in s.part s.declarations i ++ own_same ss i)
      ∙ sym (flat_map-append by_entry (as_locals one) (as_locals rest))
      ∙ ap (flat_map by_entry) (sym (flat_map-append (names.declares Local) one rest))

  -- inputs and outputs of a function block are SAFEBOOL or BOOL, so none is an instance
  no_instance_typed : (n ty : Name) → names_signal ty ≡ true → instance_at (at path n) (sort_in Local (type_named ty.text)) ≡ []
  no_instance_typed n ty h = by (is_same_name ty.text (codes "SAFEBOOL")) (is_same_name ty.text (codes "BOOL")) h
    where
      by : (a b : Bool) → (a || b) ≡ true →
          instance_at (at path n) (sort_in Local (if a then Some (type_name.Signal kind_of_signal.Safe) else
          (if b then Some (type_name.Signal kind_of_signal.Bool) else option_map type_name.Block (names.kind_called ty.text)))) ≡ []
      by true b e = refl
      by false true e = refl
      by false false e = absurd (false≢true e)

  fits : (b : Bool) (o : Refusal) → unless b (o ∷ []) ≡ [] → b ≡ true
  fits true o h = refl
  fits false o h = cc

  module _ (block_names : List Name) (before : List Interface) where
    abbrev breaks : Declared → List Refusal
    breaks d = typed_wrongly Block block_names before d

    inputs_named : (ty : Name) (ns : List Name) → flat_map breaks (map (declared_as Input ty) ns) ≡ [] → instances_in path (map (entry_of Local ty) ns) ≡ []
    inputs_named ty [] h = refl
    inputs_named ty (n ∷ ns) h =
        (λ i. no_instance_typed n ty (fits (names_signal ty) _ (none_left _ (flat_map breaks (map (declared_as Input ty) ns)) h)) i
        ++ inputs_named ty ns (none_right (breaks (declared_as Input ty n)) _ h) i)

    outputs_named : (ty : Name) (ns : List Name) → flat_map breaks (map (declared_as Output ty) ns) ≡ [] → instances_in path (map (entry_of Local ty) ns) ≡ []
    outputs_named ty [] h = refl
    outputs_named ty (n ∷ ns) h =
        (λ i. no_instance_typed n ty (fits (names_signal ty) _ (none_left _ (flat_map breaks (map (declared_as Output ty) ns)) h)) i
        ++ outputs_named ty ns (none_right (breaks (declared_as Output ty n)) _ h) i)

    first_fine : (us ws : List Declared) → flat_map breaks (us ++ ws) ≡ [] → flat_map breaks us ≡ []
    first_fine us ws h = none_left _ (flat_map breaks ws) (sym (flat_map-append breaks us ws) ∙ h)

    rest_fine : (us ws : List Declared) → flat_map breaks (us ++ ws) ≡ [] → flat_map breaks ws ≡ []
    rest_fine us ws h = none_right (flat_map breaks us) _ (sym (flat_map-append breaks us ws) ∙ h)

    no_inputs : (part : Part) (ds : List Declaration) → flat_map breaks (flat_map (declares part) ds) ≡ [] → instances_in path (as_locals (where_in is_input part ds)) ≡ []
    no_inputs Input [] h = refl
    no_inputs Input (d ∷ ds) h =
        flat_map-append by_entry (names.declares Local d) (as_locals (flat_in Input ds))
        ∙ (λ i. inputs_named d.ty d.names (first_fine (declares Input d) (flat_map (declares Input) ds) h) i ++ no_inputs Input ds (rest_fine (declares Input d) (flat_map (declares Input) ds) h) i)
    no_inputs Output ds h = refl
    no_inputs Local ds h = refl

    no_outputs : (part : Part) (ds : List Declaration) → flat_map breaks (flat_map (declares part) ds) ≡ [] → instances_in path (as_locals (where_in is_output part ds)) ≡ []
    no_outputs Output [] h = refl
    no_outputs Output (d ∷ ds) h =
        flat_map-append by_entry (names.declares Local d) (as_locals (flat_in Output ds))
        ∙ (λ i. outputs_named d.ty d.names (first_fine (declares Output d) (flat_map (declares Output) ds) h) i ++ no_outputs Output ds (rest_fine (declares Output d) (flat_map (declares Output) ds) h) i)
    no_outputs Input ds h = refl
    no_outputs Local ds h = refl

    no_pins : (is_part : Part → Bool) → ((part : Part) (ds : List Declaration) → flat_map breaks (flat_map (declares part) ds) ≡ [] → instances_in path (as_locals (where_in is_part part ds)) ≡ []) →
        (ss : List Section) → flat_map breaks (declared_names ss) ≡ [] → instances_in path (as_locals (declarations_in is_part (map (section_flat (laid_of ps)) ss))) ≡ []
    no_pins is_part none [] h = refl
    no_pins is_part none (s ∷ ss) h =
        let one = where_in is_part s.part s.declarations in
        let rest = declarations_in is_part (map (section_flat (laid_of ps)) ss) in
        ap (flat_map by_entry) (flat_map-append (names.declares Local) one rest)
        ∙ flat_map-append by_entry (as_locals one) (as_locals rest)
        ∙ (λ i. none s.part s.declarations (first_fine (section_declares s) (declared_names ss) h) i ++ no_pins is_part none ss (rest_fine (section_declares s) (declared_names ss) h) i)

    -- the instances of a function block whose types fit
    pub block_same : (s : SourceTree) → flat_map breaks (declared_names s.sections) ≡ [] →
        instances_of (bodies ps) (declared_names s.sections) path ≡ instances_in path (copied_entries (block_flat (laid_of ps) s))
    block_same s h =
        let sections = map (section_flat (laid_of ps)) s.sections in
        let ins = declarations_in is_input sections in
        let outs = declarations_in is_output sections in
        let own = declarations_in is_local sections in
        own_same s.sections
        ∙ sym (ap (λ l. l ++ instances_in path (as_locals own)) (no_pins is_output no_outputs s.sections h))
        ∙ sym (ap (λ l. l ++ (instances_in path (as_locals outs) ++ instances_in path (as_locals own))) (no_pins is_input no_inputs s.sections h))
        ∙ sym (ap (λ l. instances_in path (as_locals ins) ++ l) (flat_map-append by_entry (as_locals outs) (as_locals own)))
        ∙ sym (flat_map-append by_entry (as_locals ins) (as_locals outs ++ as_locals own))
        ∙ sym (ap (λ l. instances_in path (as_locals ins ++ l)) (flat_map-append (names.declares Local) outs own))
        ∙ sym (ap (instances_in path) (flat_map-append (names.declares Local) ins (outs ++ own)))
