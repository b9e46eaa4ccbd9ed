-- A name inside an instance stands at its path.
use Rattle.std.proofs.Common.{◌≡◌, ℕ, List, [], ◌∷◌, ◌++◌, sym, ap, ◌∙◌, append_assoc}
use Rattle.std.specs.Char.{to_ascii_lowercase}
use Rattle.std.proofs.lemmas.List.{map-append}
use Rattle.ps_base.specs.LetterCase.{folded}
use Rattle.ps_parser.specs.declared.name.Name.{Name}
use Rattle.ps_derived.specs.Dotted.{inside}
use Rattle.ps_language_laws.specs.Paths.{at, copy_at}

-- the text of a dotted name without letter case
pub dotted_folded : (g n : List ℕ) → folded (g ++ 46 ∷ n) ≡ folded g ++ 46 ∷ folded n
dotted_folded g n = map-append to_ascii_lowercase g (46 ∷ n)

joined : (path g n : List ℕ) → path ++ (g ++ 46 ∷ n) ≡ (path ++ (g ++ 46 ∷ [])) ++ n
joined path g n = ap (λ l. path ++ l) (sym (append_assoc g (46 ∷ []) n)) ∙ sym (append_assoc path (g ++ 46 ∷ []) n)

pub at_inside : (path : List ℕ) (g n : Name) → at path (inside g n) ≡ at (copy_at path g) n
at_inside path g n = ap (λ l. path ++ l) (dotted_folded g.text n.text) ∙ joined path (folded g.text) (folded n.text)

pub copy_inside : (path : List ℕ) (g n : Name) → copy_at path (inside g n) ≡ copy_at (copy_at path g) n
copy_inside path g n =
    ap (λ l. path ++ (l ++ 46 ∷ [])) (dotted_folded g.text n.text)
    ∙ ap (λ l. path ++ l) (append_assoc (folded g.text) (46 ∷ folded n.text) (46 ∷ []))
    ∙ joined path (folded g.text) (folded n.text ++ 46 ∷ [])

-- names without letter case stand at one path
pub at_same : (path : List ℕ) (m n : Name) → folded m.text ≡ folded n.text → at path m ≡ at path n
at_same path m n h = ap (λ l. path ++ l) h

pub copy_same : (path : List ℕ) (m n : Name) → folded m.text ≡ folded n.text → copy_at path m ≡ copy_at path n
copy_same path m n h = ap (λ l. path ++ (l ++ 46 ∷ [])) h
