-- The names of the outputs of an accepted application are those of its program, which are short.
use Rattle.std.proofs.Common.{◌≡◌, ◌≤◌, ℕ, suc, List, [], ◌∷◌, ◌++◌, Bool, true, false, Option, Some, None, filter, flat_map, if◌then◌else◌, length, map, refl, sym, subst, arith}
use Rattle.std.specs.List.{All, AllByRecursion}
use Rattle.std.proofs.lemmas.List.Elements.{All-append, All-cons, All-map, All-nil}
use Rattle.ps_derived.specs.Flat.{FlatBlock, block_in, blocks_flat, declaration_flat, flat, section_flat}
use Rattle.ps_derived.specs.Spelling.{spelt_as_declared}
use Rattle.ps_model.specs.Network.{Network}
use Rattle.ps_model.specs.declared.named.Signal.{Signal}
use Rattle.ps_names.proofs.Lists.{all_brought}
use Rattle.ps_names.specs.Names.{declares, entries, entry_of, is_output, section_entries, sort_in, type_named}
use Rattle.ps_names.specs.Stands.{signal_named}
use Rattle.ps_names.specs.declared.entry.Entry.{Entry}
use Rattle.ps_names.specs.declared.entry.TypeNamed.{TypeNamed}
use Rattle.ps_names.specs.declared.entry.TypeNamed.TheVariants as type_name
use Rattle.ps_parser.specs.Names.{IsPlainName}
use Rattle.ps_parser.specs.Whole.{DeclarationWhole, NamesWhole, SectionWhole}
use Rattle.ps_parser.specs.declared.name.Name.{Name}
use Rattle.ps_parser.specs.declared.section.Declaration.{Declaration}
use Rattle.ps_parser.specs.declared.section.Part.{Part}
use Rattle.ps_parser.specs.declared.section.Part.TheVariants.{Input, Local, Output}
use Rattle.ps_parser.specs.declared.section.Section.{Section}
use Rattle.ps_bench_frame.specs.Opening.{GivesNet}

-- an output has a short name
abbrev IsShortOutput : Entry → Type 0
IsShortOutput e = is_output e.sort ≡ true → length e.name.text ≤ 64

-- what a section of locals declares is no output
no_output : (t : Option TypeNamed) → is_output (sort_in Local t) ≡ true → ⊥
no_output None is = cc
no_output (Some (type_name.Signal t)) is = cc
no_output (Some (type_name.Block k)) is = cc

locals_short : (d : Declaration) → All IsShortOutput (declares Local d)
locals_short d = All-map IsShortOutput (entry_of Local d.ty) d.names (λ k n inside is. absurd (no_output (type_named d.ty.text) is))

later_short : (ns : List Name) → AllByRecursion (λ m. IsPlainName m.text) ns → All (λ (n : Name). length n.text ≤ 64) ns
later_short [] are = All-nil (λ (n : Name). length n.text ≤ 64)
later_short (n ∷ ns) are = All-cons (λ (m : Name). length m.text ≤ 64) n ns are.0.name.short (later_short ns are.1)

names_short : (ns : List Name) → NamesWhole IsPlainName ns → All (λ (n : Name). length n.text ≤ 64) ns
names_short [] are = absurd are
names_short (n ∷ ns) are = All-cons (λ (m : Name). length m.text ≤ 64) n ns are.0.name.short (later_short ns are.1)

module _ (blocks : List FlatBlock) where
  -- a section of inputs or outputs is as it is
  kept_short : (part : Part) → ((ty : Name) → block_in blocks part ty ≡ None) → (ds : List Declaration) → AllByRecursion (DeclarationWhole IsPlainName) ds →
      All IsShortOutput (flat_map (declares part) (flat_map (λ d. declaration_flat d (block_in blocks part d.ty)) ds))
  kept_short part none [] are = All-nil IsShortOutput
  kept_short part none (d ∷ ds) are =
      let rest = flat_map (λ (x : Declaration). declaration_flat x (block_in blocks part x.ty)) ds in
      subst (λ (b : Option FlatBlock). All IsShortOutput (flat_map (declares part) (declaration_flat d b ++ rest))) (sym (none d.ty))
      (All-append IsShortOutput (declares part d) (flat_map (declares part) rest)
      (All-map IsShortOutput (entry_of part d.ty) d.names (λ k n inside is. names_short d.names are.0.0 k n inside))
      (kept_short part none ds are.1))

  section_short : (part : Part) (ds : List Declaration) → AllByRecursion (DeclarationWhole IsPlainName) ds →
      All IsShortOutput (flat_map (declares part) (flat_map (λ d. declaration_flat d (block_in blocks part d.ty)) ds))
  section_short Input ds are = kept_short Input (λ ty. refl) ds are
  section_short Output ds are = kept_short Output (λ ty. refl) ds are
  section_short Local ds are =
      all_brought IsShortOutput (declares Local) (flat_map (λ (d : Declaration). declaration_flat d (block_in blocks Local d.ty)) ds) (λ k d at. locals_short d)

  sections_short : (ss : List Section) → AllByRecursion (SectionWhole IsPlainName) ss → All IsShortOutput (flat_map section_entries (map (section_flat blocks) ss))
  sections_short [] are = All-nil IsShortOutput
  sections_short (s ∷ ss) are =
      All-append IsShortOutput (section_entries (section_flat blocks s)) (flat_map section_entries (map (section_flat blocks) ss)) (section_short s.part s.declarations are.0) (sections_short ss are.1)

filtered_short : (es : List Entry) → All IsShortOutput es → All (λ (e : Entry). length e.name.text ≤ 64) (filter (λ (e : Entry). is_output e.sort) es)
filtered_short [] are = All-nil (λ (e : Entry). length e.name.text ≤ 64)
filtered_short (e ∷ es) are = chosen (is_output e.sort) refl (filtered_short es (λ k d inside. are (suc k) d (omega (arith, inside))))
  where
    chosen : (b : Bool) → is_output e.sort ≡ b → All (λ (x : Entry). length x.name.text ≤ 64) (filter (λ (x : Entry). is_output x.sort) es) →
        All (λ (x : Entry). length x.name.text ≤ 64) (if b then e ∷ filter (λ (x : Entry). is_output x.sort) es else filter (λ (x : Entry). is_output x.sort) es)
    chosen true is rest = All-cons (λ (x : Entry). length x.name.text ≤ 64) e (filter (λ (x : Entry). is_output x.sort) es) (are 0 e (omega arith) is) rest
    chosen false is rest = rest

pub outputs_short : (text : List ℕ) (net : Network) → GivesNet text net → All (λ (s : Signal). length s.name ≤ 64) net.outputs
outputs_short text net given =
    let resolved = given.0 in
    let program = resolved.program in
    let before = blocks_flat [] (map spelt_as_declared program.library.blocks) in
    let whole = sections_short before program.library.program.sections program.text.spelt.within.program.grammatical.1 in
    subst (λ (n : Network). All (λ (s : Signal). length s.name ≤ 64) n.outputs) (sym resolved.stands.is)
    (subst (λ p. All (λ (s : Signal). length s.name ≤ 64) (map signal_named (filter (λ (e : Entry). is_output e.sort) (entries p)))) (sym program.is)
    (All-map (λ (s : Signal). length s.name ≤ 64) signal_named (filter (λ (e : Entry). is_output e.sort) (entries (flat program.library)))
    (filtered_short (entries (flat program.library)) whole)))
