-- The names of an accepted application are plain.
use Rattle.std.proofs.Common.{◌≡◌, ◌&&◌, ◌++◌, ◌∷◌, ◌∙◌, ℕ, zero, suc, List, [], Bool, true, Some, filter, get_or, map, slice_get, length, refl, sym, ap, subst, arith}
use Rattle.std.specs.List.{All, list_all}
use Rattle.std.proofs.lemmas.Bool.Decides.{nat_tests}
use Rattle.std.proofs.lemmas.List.{length-append}
use Rattle.std.proofs.lemmas.List.Elements.{All-append, All-filter, All-from_get_or, All-map}
use Rattle.std.proofs.lemmas.List.Folds.{list_all-append}
use Rattle.ps_lexer.specs.Spelling.{IsName, continues_name}
use Rattle.ps_parser.specs.declared.name.Name.{Name}
use Rattle.ps_parser.specs.declared.section.Declaration.{Declaration}
use Rattle.ps_parser.specs.declared.section.Part.{Part}
use Rattle.ps_parser.specs.declared.section.Section.{Section}
use Rattle.ps_parser.specs.Names.{IsDottedName, joined, single}
use Rattle.ps_parser.specs.Tree.{SourceTree}
use Rattle.ps_parser.specs.Whole.{DeclarationWhole, IsSource, NamesWhole, SectionWhole}
use Rattle.ps_names.specs.declared.entry.Entry.{Entry}
use Rattle.ps_names.specs.Names.{declares, entries, entry_of, is_input, is_instance, is_local, is_output, section_entries}
use Rattle.ps_names.specs.Stands.{instance_named, network, signal_named}
use Rattle.ps_names.proofs.Lists.{all_at, all_brought, one_of_all}
use Rattle.ps_model.specs.declared.named.Instance.{Instance}
use Rattle.ps_model.specs.declared.named.Signal.{Signal}
use Rattle.ps_model.specs.Network.{Network, names}
use Rattle.ps_model.specs.Sound.{IsSound}
use Rattle.ps_accepted.proofs.Keeping.{program_kept, resolved_sound}
use Rattle.ps_bench_cases.proofs.ReadBack.{both_hold}
use Rattle.ps_bench_frame.specs.Opening.{GivesNet}
use Rattle.ps_bench_never.specs.ReadBack.{HasPlainNames, HasProperNames, IsProper, is_name_byte, is_of_name}

-- ---- A name.

byte_plain : (b : ℕ) → is_name_byte b ≡ true → is_of_name b ≡ true
byte_plain b is = grind (arith, nat_tests)

byte_proper : (b : ℕ) → continues_name b ≡ true → is_name_byte b ≡ true
byte_proper b is = grind (arith, nat_tests)

all_bytes : (bytes : List ℕ) → All (λ b. is_name_byte b ≡ true) bytes → list_all is_name_byte bytes ≡ true
all_bytes [] each = refl
all_bytes (b ∷ bytes) each =
    ap (λ (t : Bool). t && list_all is_name_byte bytes) (each 0 0 (omega arith)) ∙ all_bytes bytes (λ k d inside. each (suc k) d (omega (arith, inside)))

single_proper : (text : List ℕ) → IsName text → list_all is_name_byte text ≡ true
single_proper text is =
    all_bytes text (All-from_get_or (λ b. is_name_byte b ≡ true) text 0 (λ k inside. byte_proper (get_or text k 0) (is.identifier.continues k inside)))

name_proper : (text : List ℕ) → IsDottedName text → IsProper text
name_proper text (single is) = record { some = is.identifier.some; bytes = single_proper text is }
name_proper text (joined first rest is more parts) = record {
  some = omega (arith, is.identifier.some, ap (λ (bytes : List ℕ). length bytes) parts, length-append first (46 ∷ rest));
  bytes = ap (list_all is_name_byte) parts ∙ list_all-append is_name_byte first (46 ∷ rest)
      ∙ ap (λ (t : Bool). t && list_all is_name_byte rest) (single_proper first is) ∙ (name_proper rest more).bytes;
}

pub plain_bytes : (bytes : List ℕ) → list_all is_name_byte bytes ≡ true → list_all is_of_name bytes ≡ true
plain_bytes [] are = refl
plain_bytes (b ∷ bytes) are =
    let both = both_hold (is_name_byte b) (list_all is_name_byte bytes) are in
    ap (λ (t : Bool). t && list_all is_of_name bytes) (byte_plain b both.0) ∙ plain_bytes bytes both.1

-- ---- The declared names of a source.

-- the name of what is declared has letters, digits, `_` and dots
abbrev IsPlainEntry : Entry → Type 0
IsPlainEntry e = IsProper e.name.text

named_at : (ns : List Name) (k : ℕ) (n : Name) → NamesWhole IsDottedName ns → slice_get ns k ≡ Some n → IsDottedName n.text
named_at [] k n are at = absurd are
named_at (m ∷ ns) zero n are at = let same : m ≡ n = cc in subst (λ (x : Name). IsDottedName x.text) same are.0
named_at (m ∷ ns) (suc k) n are at = one_of_all (λ (x : Name). IsDottedName x.text) ns k n are.1 at

declaration_plain : (part : Part) (d : Declaration) → DeclarationWhole IsDottedName d → All IsPlainEntry (declares part d)
declaration_plain part d is =
    All-map IsPlainEntry (entry_of part d.ty) d.names
    (all_at (λ n. IsPlainEntry (entry_of part d.ty n)) d.names (λ k n at. name_proper n.text (named_at d.names k n is.0 at)))

section_plain : (s : Section) → SectionWhole IsDottedName s → All IsPlainEntry (section_entries s)
section_plain s is =
    all_brought IsPlainEntry (declares s.part) s.declarations
    (λ k d at. declaration_plain s.part d (one_of_all (DeclarationWhole IsDottedName) s.declarations k d is at))

entries_plain : (p : SourceTree) → IsSource p → All IsPlainEntry (entries p)
entries_plain p is =
    all_brought IsPlainEntry section_entries p.sections
    (λ k s at. section_plain s (one_of_all (SectionWhole IsDottedName) p.sections k s is.whole.1 at))

-- ---- The names of an application.

module _ (p : SourceTree) (is : IsSource p) where
  abbrev IsPlainSignal : Signal → Type 0
  IsPlainSignal s = IsProper s.name

  signals_plain : (is_part : Entry → Bool) → All IsPlainSignal (map signal_named (filter is_part (entries p)))
  signals_plain is_part = All-map IsPlainSignal signal_named (filter is_part (entries p)) (All-filter is_part IsPlainEntry (entries p) (entries_plain p is))

  instances_plain : All (λ (i : Instance). IsProper i.name) (network p).instances
  instances_plain =
      let kept = filter (λ (e : Entry). is_instance e.sort) (entries p) in
      All-map (λ (i : Instance). IsProper i.name) instance_named kept
      (All-filter (λ (e : Entry). is_instance e.sort) IsPlainEntry (entries p) (entries_plain p is))

  network_plain : HasProperNames (network p)
  network_plain =
      let net = network p in
      let declared = net.inputs ++ (net.outputs ++ net.locals) in
      All-append IsProper (map (λ (s : Signal). s.name) declared) (map (λ (i : Instance). i.name) net.instances)
      (All-map IsProper (λ (s : Signal). s.name) declared
      (All-append IsPlainSignal net.inputs (net.outputs ++ net.locals) (signals_plain (λ (e : Entry). is_input e.sort))
      (All-append IsPlainSignal net.outputs net.locals (signals_plain (λ (e : Entry). is_output e.sort)) (signals_plain (λ (e : Entry). is_local e.sort)))))
      (All-map IsProper (λ (i : Instance). i.name) net.instances instances_plain)

pub proper_names : (text : List ℕ) (net : Network) → GivesNet text net → HasProperNames net
proper_names text net given =
    let resolved = given.0 in
    subst HasProperNames (sym resolved.stands.is) (network_plain resolved.tree (program_kept text resolved.tree resolved.program))

pub plain_names : (text : List ℕ) (net : Network) → GivesNet text net → HasPlainNames net
plain_names text net given = λ k d inside. plain_bytes (get_or (names net) k d) (proper_names text net given k d inside).bytes

pub sound_net : (text : List ℕ) (net : Network) → GivesNet text net → IsSound net
sound_net text net given = resolved_sound text net given.0
