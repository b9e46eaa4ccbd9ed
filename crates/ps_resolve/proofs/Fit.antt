-- The declared names of a source are text, and none is of the type TIME.
use Rattle.std.proofs.Common.{◌≡◌, ℕ, zero, suc, ◌<◌, true, List, [], ◌∷◌, Some, slice_get, get_or, sym, subst, arith}
use Rattle.std.specs.List.{All}
use Rattle.std.specs.Str.{IsUtf8}
use Rattle.std.proofs.lemmas.Bool.Decides.{nat_tests}
use Rattle.std.proofs.lemmas.List.Elements.{All-append, All-cons, All-map, All-from_get_or}
use Rattle.std.proofs.lemmas.Str.{IsUtf8-from_ascii}
use Rattle.std.proofs.lemmas.Str.Ascii.{IsAscii-from_all}
use Rattle.ps_lexer.specs.Spelling.{continues_name, IsName}
use Rattle.ps_parser.specs.declared.name.Name.{Name}
use Rattle.ps_parser.specs.declared.section.Part.{Part}
use Rattle.ps_parser.specs.declared.section.Declaration.{Declaration}
use Rattle.ps_parser.specs.declared.section.Section.{Section}
use Rattle.ps_parser.specs.Tree.{SourceTree}
use Rattle.ps_parser.specs.Names.{IsDottedName, single, joined}
use Rattle.ps_parser.specs.Whole.{IsSource, NamesWhole, DeclarationWhole, SectionWhole}
use Rattle.ps_names.specs.Names.{entry_of, declares, section_entries, entries}
use Rattle.ps_names.proofs.Booleans.{entry_is_boolean}
use Rattle.ps_names.proofs.Lists.{all_at, one_of_all, all_brought}
use Rattle.ps_resolve.specs.Spelt.{IsFit}

byte_is_ascii : (b : ℕ) → continues_name b ≡ true → b < 128
byte_is_ascii b h = grind (arith, nat_tests)

name_is_ascii : (text : List ℕ) → IsName text → All (λ b. b < 128) text
name_is_ascii text h = All-from_get_or (λ b. b < 128) text 0 (λ k within. byte_is_ascii (get_or text k 0) (h.identifier.continues k within))

dotted_is_ascii : (text : List ℕ) → IsDottedName text → All (λ b. b < 128) text
dotted_is_ascii text (single h) = name_is_ascii text h
dotted_is_ascii text (joined first rest h more is) =
    subst (All (λ b. b < 128)) (sym is) (All-append (λ b. b < 128) first (46 ∷ rest) (name_is_ascii first h) (All-cons (λ b. b < 128) 46 rest (omega arith) (dotted_is_ascii rest more)))

pub name_is_text : (text : List ℕ) → IsDottedName text → IsUtf8 text
name_is_text text h = IsUtf8-from_ascii text (IsAscii-from_all text (dotted_is_ascii text h))

named_at : (ns : List Name) (k : ℕ) (n : Name) → NamesWhole IsDottedName ns → slice_get ns k ≡ Some n → IsDottedName n.text
named_at [] k n h at = absurd h
named_at (m ∷ ns) zero n h at = let e : m ≡ n = cc in subst (λ x. IsDottedName x.text) e h.0
named_at (m ∷ ns) (suc k) n h at = one_of_all (λ x. IsDottedName x.text) ns k n h.1 at

declaration_fits : (part : Part) (d : Declaration) → DeclarationWhole IsDottedName d → All IsFit (declares part d)
declaration_fits part d h =
    All-map IsFit (entry_of part d.ty) d.names
    (all_at (λ n. IsFit (entry_of part d.ty n)) d.names (λ k n at. record {
      text = name_is_text n.text (named_at d.names k n h.0 at);
      boolean = entry_is_boolean part d.ty n;
    }))

section_fits : (s : Section) → SectionWhole IsDottedName s → All IsFit (section_entries s)
section_fits s h = all_brought IsFit (declares s.part) s.declarations (λ k d at. declaration_fits s.part d (one_of_all (DeclarationWhole IsDottedName) s.declarations k d h at))

pub entries_fit : (p : SourceTree) → IsSource p → All IsFit (entries p)
entries_fit p h = all_brought IsFit section_entries p.sections (λ k s at. section_fits s (one_of_all (SectionWhole IsDottedName) p.sections k s h.whole.1 at))
