-- What is taken of whole sections is whole.
use Rattle.std.proofs.Common.{List, ℕ, Bool, true, false, [], ◌∷◌}
use Rattle.std.specs.Prelude.{not, if◌then◌else◌}
use Rattle.std.specs.List.{AllByRecursion, flat_map, range_with_len}
use Rattle.ps_model.specs.Network.{Network}
use Rattle.ps_parser.specs.Names.{IsDottedName}
use Rattle.ps_parser.specs.Tree.{SourceTree}
use Rattle.ps_parser.specs.Whole.{DeclarationWhole, IsSource, NamesWhole, SectionWhole}
use Rattle.ps_parser.specs.declared.name.Name.{Name}
use Rattle.ps_parser.specs.declared.section.Declaration.{Declaration}
use Rattle.ps_parser.specs.declared.section.Part.{Part}
use Rattle.ps_parser.specs.declared.section.Section.{Section}
use Rattle.ps_flatten.proofs.Wholes.{all_append}
use Rattle.ps_pairs.specs.Arranging.{alone, arranged, is_shared, is_shared_at, shared_count, taken, taken_declaration, taken_name, taken_section}

-- each item of pieces that are whole
all_flat : {X Y : Type 0} (P : X → Type 0) (Q : Y → Type 0) (f : X → List Y) (xs : List X) → ((x : X) → P x → AllByRecursion Q (f x)) → AllByRecursion P xs → AllByRecursion Q (flat_map f xs)
all_flat P Q f [] g h = tt
all_flat P Q f (x ∷ xs) g h = all_append Q (f x) (flat_map f xs) (g x h.0) (all_flat P Q f xs g h.1)

-- a name is dotted
abbrev Named : Name → Type 0
Named n = IsDottedName n.text

-- each name of a declaration
named : (ns : List Name) → NamesWhole IsDottedName ns → AllByRecursion Named ns
named [] h = absurd h
named (n ∷ ns) h = h

-- a name that is taken or not
name_taken : (taken : Bool) (part : Part) (ty n : Name) → Named ty → Named n → AllByRecursion (SectionWhole IsDottedName) (if taken then alone part ty n ∷ [] else [])
name_taken true part ty n t h = ((((h, tt), t), tt), tt)
name_taken false part ty n t h = tt

module _ (wanted : List ℕ → Bool) where
  declaration_taken : (part : Part) (d : Declaration) → DeclarationWhole IsDottedName d → AllByRecursion (SectionWhole IsDottedName) (taken_declaration wanted part d)
  declaration_taken part d h =
      all_flat Named (SectionWhole IsDottedName) (taken_name wanted part d.ty) d.names (λ n k. name_taken (wanted n.text) part d.ty n h.1 k) (named d.names h.0)

  section_taken : (s : Section) → SectionWhole IsDottedName s → AllByRecursion (SectionWhole IsDottedName) (taken_section wanted s)
  section_taken s h = all_flat (DeclarationWhole IsDottedName) (SectionWhole IsDottedName) (taken_declaration wanted s.part) s.declarations (declaration_taken s.part) h

  pub sections_taken : (ss : List Section) → AllByRecursion (SectionWhole IsDottedName) ss → AllByRecursion (SectionWhole IsDottedName) (taken wanted ss)
  sections_taken ss h = all_flat (SectionWhole IsDottedName) (SectionWhole IsDottedName) (taken_section wanted) ss section_taken h

-- those of each of some numbers
numbers_taken : (net : Network) (ss : List Section) → AllByRecursion (SectionWhole IsDottedName) ss → (xs : List ℕ) →
    AllByRecursion (SectionWhole IsDottedName) (flat_map (λ s. taken (is_shared_at net s) ss) xs)
numbers_taken net ss h [] = tt
numbers_taken net ss h (x ∷ xs) =
    all_append (SectionWhole IsDottedName) (taken (is_shared_at net x) ss) (flat_map (λ s. taken (is_shared_at net s) ss) xs)
    (sections_taken (is_shared_at net x) ss h) (numbers_taken net ss h xs)

-- a source in the order of an application keeps what every source keeps
pub arranged_kept : (net : Network) (tree : SourceTree) → IsSource tree → IsSource (arranged net tree)
arranged_kept net tree h = record {
  whole = (
    h.whole.0,
    all_append (SectionWhole IsDottedName) (flat_map (λ s. taken (is_shared_at net s) tree.sections) (range_with_len 0 (shared_count net)))
        (taken (λ text. not (is_shared net text)) tree.sections) (numbers_taken net tree.sections h.whole.1 (range_with_len 0 (shared_count net)))
        (sections_taken (λ text. not (is_shared net text)) tree.sections h.whole.1),
    h.whole.2,
  );
  shallow = h.shallow;
}
