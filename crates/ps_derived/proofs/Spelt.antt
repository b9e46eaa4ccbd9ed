-- A name is the same name, however it is spelt.
use Rattle.std.proofs.Common.{◌≡◌, Bool, true, false, List, [], ◌∷◌, Some, refl, sym, ap, cond}
use Rattle.std.specs.List.{find}
use Rattle.std.specs.Str.{bytes_eq}
use Rattle.std.proofs.lemmas.Slice.Eq.{bytes_eq-Decides}
use Rattle.ps_base.specs.LetterCase.{folded}
use Rattle.ps_parser.specs.declared.name.Name.{Name}
use Rattle.ps_derived.specs.declared.declared.Declared.{Declared}
use Rattle.ps_derived.specs.Bodies.{same, first_declared}
use Rattle.ps_derived.specs.Spelling.{spelling, as_declared}
use Rattle.ps_derived.specs.Flat.{FlatBlock, instance_if, instance_of}

-- a name has its text but for letter case, where it is spelt as it is declared
pub spelt_same : (ds : List Declared) (n : Name) → folded (spelling n (first_declared ds n)) ≡ folded n.text
spelt_same [] n = refl
spelt_same (d ∷ ds) n = by (same n d.name) refl (spelt_same ds n)
  where
    by : (b : Bool) → same n d.name ≡ b → folded (spelling n (first_declared ds n)) ≡ folded n.text → folded (spelling n (cond b (Some d) (first_declared ds n))) ≡ folded n.text
    by true is rest = sym ((bytes_eq-Decides (folded n.text) (folded d.name.text)).0 is)
    by false is rest = rest

-- and the same declaration
pub first_same : (ds es : List Declared) (n : Name) → first_declared es (as_declared ds n) ≡ first_declared es n
first_same ds es n = ap (λ t. find (λ d. bytes_eq t (folded d.name.text)) es) (spelt_same ds n)

-- and is the same instance
pub instance_same : (blocks : List FlatBlock) (ds es : List Declared) (n : Name) → instance_of blocks es (as_declared ds n) ≡ instance_of blocks es n
instance_same blocks ds es n = ap (instance_if blocks) (first_same ds es n)
