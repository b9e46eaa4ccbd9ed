-- The names of the inputs of an accepted text can be seen, and the header of a trace has room for them.
use Rattle.std.proofs.Common.{◌≡◌, ◌≤◌, ◌<◌, ◌+◌, ◌*◌, ◌++◌, ◌&&◌, ℕ, suc, Bool, true, false, cond, List, [], ◌∷◌, Option, Some, None, codes, filter, flat_map, length, map, nat_lt, slice_index, refl, sym, ap, subst, ◌∙◌, arith}
use Rattle.std.specs.List.{All, AllByRecursion, list_all}
use Rattle.std.proofs.lemmas.Bool.{false≢true}
use Rattle.std.proofs.lemmas.Bool.Decides.{nat_tests}
use Rattle.std.proofs.lemmas.List.{length-append}
use Rattle.std.proofs.lemmas.List.Elements.{All-from_recursion}
use Rattle.ps_accepted.proofs.Keeping.{resolved_sound}
use Rattle.ps_accepted.specs.Source.{Resolves}
use Rattle.ps_base.specs.declared.limits.TheConstants.{LONGEST_TRACE_LINE}
use Rattle.ps_bench_cases.specs.Expanded.{header_line}
use Rattle.ps_bench_cases.specs.Legible.{IsSeen}
use Rattle.ps_derived.specs.Flat.{FlatBlock, block_in, declaration_flat, flat, section_flat}
use Rattle.ps_derived.specs.declared.library.Library.{Library}
use Rattle.ps_lexer.specs.Spelling.{IsName, continues_name}
use Rattle.ps_model.specs.Network.{Network}
use Rattle.ps_model.specs.declared.named.Signal.{Signal}
use Rattle.ps_names.specs.Names.{declares, entries, entry_of, is_input, section_entries, sort_in, type_named}
use Rattle.ps_names.specs.Stands.{network, signal_named}
use Rattle.ps_names.specs.declared.entry.Entry.{Entry}
use Rattle.ps_names.specs.declared.entry.TypeNamed.{TypeNamed}
use Rattle.ps_names.specs.declared.entry.TypeNamed.TheVariants as type_name
use Rattle.ps_parser.specs.Names.{IsPlainName}
use Rattle.ps_parser.specs.Whole.{DeclarationWhole, IsWhole, NamesWhole, SectionWhole}
use Rattle.ps_parser.specs.declared.name.Name.{Name}
use Rattle.ps_parser.specs.declared.section.Declaration.{Declaration}
use Rattle.ps_parser.specs.declared.section.Part.{Part}
use Rattle.ps_parser.specs.declared.section.Part.TheVariants.{Input, Local, Output}
use Rattle.ps_parser.specs.declared.section.Section.{Section}
use Rattle.ps_trace.specs.Header.{input_names}

pub all_both : {X : Type 0} (P : X → Type 0) (xs ys : List X) → AllByRecursion P xs → AllByRecursion P ys → AllByRecursion P (xs ++ ys)
all_both P [] ys all more = more
all_both P (x ∷ xs) ys all more = (all.0, all_both P xs ys all.1 more)

-- ---- What a source declares: each input by a name of the language.

abbrev IsFine : Entry → Type 0
IsFine e = is_input e.sort ≡ true → IsName e.name.text

names_plain : (ns : List Name) → NamesWhole IsPlainName ns → AllByRecursion (λ (n : Name). IsPlainName n.text) ns
names_plain [] whole = absurd whole
names_plain (n ∷ ns) whole = (whole.0, whole.1)

named_fine : (part : Part) (ty : Name) (ns : List Name) → AllByRecursion (λ (n : Name). IsPlainName n.text) ns → AllByRecursion IsFine (map (entry_of part ty) ns)
named_fine part ty [] plain = tt
named_fine part ty (n ∷ ns) plain = (λ input. plain.0.name, named_fine part ty ns plain.1)

-- the declarations of VAR_INPUT stay as they are
inputs_fine : (blocks : List FlatBlock) (ds : List Declaration) → AllByRecursion (DeclarationWhole IsPlainName) ds →
    AllByRecursion IsFine (flat_map (declares Input) (flat_map (λ (d : Declaration). declaration_flat d (block_in blocks Input d.ty)) ds))
inputs_fine blocks [] whole = tt
inputs_fine blocks (d ∷ ds) whole =
    all_both IsFine (declares Input d) (flat_map (declares Input) (flat_map (λ (e : Declaration). declaration_flat e (block_in blocks Input e.ty)) ds))
    (named_fine Input d.ty d.names (names_plain d.names whole.0.0)) (inputs_fine blocks ds whole.1)

-- those of other parts declare none
no_output : (t : Option TypeNamed) → is_input (sort_in Output t) ≡ true → ⊥
no_output None input = false≢true input
no_output (Some (type_name.Signal ty)) input = false≢true input
no_output (Some (type_name.Block kind)) input = false≢true input

no_local : (t : Option TypeNamed) → is_input (sort_in Local t) ≡ true → ⊥
no_local None input = false≢true input
no_local (Some (type_name.Signal ty)) input = false≢true input
no_local (Some (type_name.Block kind)) input = false≢true input

module _ (part : Part) (none : (t : Option TypeNamed) → is_input (sort_in part t) ≡ true → ⊥) where
  others_named : (ty : Name) (ns : List Name) → AllByRecursion IsFine (map (entry_of part ty) ns)
  others_named ty [] = tt
  others_named ty (n ∷ ns) = (λ input. absurd (none (type_named ty.text) input), others_named ty ns)

  others_fine : (ds : List Declaration) → AllByRecursion IsFine (flat_map (declares part) ds)
  others_fine [] = tt
  others_fine (d ∷ ds) = all_both IsFine (declares part d) (flat_map (declares part) ds) (others_named d.ty d.names) (others_fine ds)

part_fine : (blocks : List FlatBlock) (part : Part) (ds : List Declaration) → AllByRecursion (DeclarationWhole IsPlainName) ds →
    AllByRecursion IsFine (flat_map (declares part) (flat_map (λ (d : Declaration). declaration_flat d (block_in blocks part d.ty)) ds))
part_fine blocks Input ds whole = inputs_fine blocks ds whole
part_fine blocks Output ds whole = others_fine Output no_output (flat_map (λ (d : Declaration). declaration_flat d (block_in blocks Output d.ty)) ds)
part_fine blocks Local ds whole = others_fine Local no_local (flat_map (λ (d : Declaration). declaration_flat d (block_in blocks Local d.ty)) ds)

sections_fine : (blocks : List FlatBlock) (ss : List Section) → AllByRecursion (SectionWhole IsPlainName) ss →
    AllByRecursion IsFine (flat_map section_entries (map (section_flat blocks) ss))
sections_fine blocks [] whole = tt
sections_fine blocks (s ∷ ss) whole =
    all_both IsFine (section_entries (section_flat blocks s)) (flat_map section_entries (map (section_flat blocks) ss))
    (part_fine blocks s.part s.declarations whole.0) (sections_fine blocks ss whole.1)

-- ---- The inputs of its application.

abbrev AreNamed : List Signal → Type 0
AreNamed = AllByRecursion (λ (s : Signal). IsName s.name)

picked : (e : Entry) (left : List Entry) (b : Bool) → is_input e.sort ≡ b → IsFine e → AreNamed (map signal_named left) →
    AreNamed (map signal_named (cond b (e ∷ left) left))
picked e left true is fine named = (fine is, named)
picked e left false is fine named = named

inputs_named : (es : List Entry) → AllByRecursion IsFine es → AreNamed (map signal_named (filter (λ (e : Entry). is_input e.sort) es))
inputs_named [] fine = tt
inputs_named (e ∷ es) fine =
    picked e (filter (λ (d : Entry). is_input d.sort) es) (is_input e.sort) refl fine.0 (inputs_named es fine.1)

source_named : (l : Library) → IsWhole IsPlainName l.program → AreNamed (network (flat l)).inputs
source_named l whole = inputs_named (entries (flat l)) (sections_fine _ l.program.sections whole.1)

text_named : (text : List ℕ) (net : Network) → Resolves text net → AreNamed net.inputs
text_named text net r =
    let named = source_named r.program.library r.program.text.spelt.within.program.grammatical in
    subst (λ (n : Network). AreNamed n.inputs) (sym (r.stands.is ∙ ap network r.program.is)) named

-- ---- So they are seen, and short.

seen_byte : (b : ℕ) → continues_name b ≡ true → nat_lt 32 b ≡ true
seen_byte b is = grind (arith, nat_tests)

seen_bytes : (bytes : List ℕ) → ((k : ℕ) → k < length bytes → continues_name (slice_index bytes k) ≡ true) → list_all (λ b. nat_lt 32 b) bytes ≡ true
seen_bytes [] each = refl
seen_bytes (b ∷ bytes) each =
    ap (λ (t : Bool). t && list_all (λ c. nat_lt 32 c) bytes) (seen_byte b (each 0 (omega arith)))
    ∙ seen_bytes bytes (λ k within. each (suc k) (omega (arith, within)))

all_seen : (ss : List Signal) → AreNamed ss → AllByRecursion IsSeen (map (λ (s : Signal). s.name) ss)
all_seen [] named = tt
all_seen (s ∷ ss) named =
    (record { some = named.0.identifier.some; seen = seen_bytes s.name named.0.identifier.continues }, all_seen ss named.1)

names_short : (ss : List Signal) → AreNamed ss → length (flat_map (λ (s : Signal). 32 ∷ s.name) ss) ≤ 65 * length ss
names_short [] named = omega arith
names_short (s ∷ ss) named =
    omega (arith, named.0.short, names_short ss named.1, length-append (32 ∷ s.name) (flat_map (λ (t : Signal). 32 ∷ t.name) ss))

pub inputs_seen : (text : List ℕ) (net : Network) → Resolves text net → All IsSeen (input_names net)
inputs_seen text net r = All-from_recursion IsSeen (input_names net) (all_seen net.inputs (text_named text net r))

pub header_short : (text : List ℕ) (net : Network) → Resolves text net → length (header_line net) ≤ LONGEST_TRACE_LINE + 1
header_short text net r =
    let names = flat_map (λ (s : Signal). 32 ∷ s.name) net.inputs in
    omega (arith, names_short net.inputs (text_named text net r), (resolved_sound text net r).few_inputs, length-append (codes "time") (names ++ codes "\n"), length-append names (codes "\n"))
