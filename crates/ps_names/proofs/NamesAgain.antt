-- Names that come again, one by one.
use Rattle.std.proofs.Common.{◌≡◌, ℕ, Bool, true, false, List, [], ◌∷◌, ◌++◌, ◌+◌, ◌<◌, length, take, map, get_or, Option, None, Some, is_some, refl, sym, ap, ◌∙◌, append_assoc, ◌||◌, if◌then◌else◌}
use Rattle.std.specs.Option.{option_or}
use Rattle.std.specs.List.{list_any, flat_map}
use Rattle.std.proofs.lemmas.Grind.{flat_map-append, fold-append}
use Rattle.std.proofs.lemmas.List.{append-nil, map_more, take_more}
use Rattle.std.proofs.lemmas.List.Folds.{list_any-append}
use Rattle.ps_parser.specs.declared.name.Name.{Name}
use Rattle.ps_base.specs.declared.failing.Refusal.{Refusal}
use Rattle.ps_base.specs.declared.failing.Rule.{Rule}
use Rattle.ps_base.specs.declared.failing.Rule.TheVariants.{N1}
use Rattle.ps_names.specs.Offences.{noted, first_of, offence, when}
use Rattle.ps_base.specs.LetterCase.{is_same_name}
use Rattle.ps_names.specs.Names.{same}
use Rattle.ps_names.specs.declared.table.Table.{Table}
use Rattle.ps_names.specs.Tables.{Has}
use Rattle.ps_names.specs.Rules.{repeated}

-- passes one after the other
pub noted-append : (found : Option Refusal) (os ps : List Refusal) → noted found (os ++ ps) ≡ noted (noted found os) ps
noted-append found os ps = fold-append first_of found os ps

pub noted_two : (found f g : Option Refusal) (os ps : List Refusal) → f ≡ noted found os → g ≡ noted f ps → g ≡ noted found (os ++ ps)
noted_two found f g os ps first second = second ∙ ap (λ z. noted z ps) first ∙ sym (noted-append found os ps)

-- names with one more at the end
pub repeated_push : (rule : Rule) (before ns : List Name) (n : Name) →
    repeated rule before (ns ++ n ∷ []) ≡ repeated rule before ns ++ when (list_any (same n) (before ++ ns)) (offence rule n.place ∷ [])
repeated_push rule before [] n = append-nil _ ∙ ap (λ b. when (list_any (same n) b) (offence rule n.place ∷ [])) (sym (append-nil before))
repeated_push rule before (m ∷ ns) n =
    ap (λ os. when (list_any (same m) before) (offence rule m.place ∷ []) ++ os)
    (repeated_push rule (before ++ m ∷ []) ns n ∙ ap (λ b. repeated rule (before ++ m ∷ []) ns ++ when (list_any (same n) b) (offence rule n.place ∷ [])) (append_assoc before (m ∷ []) ns))
    ∙ sym (append_assoc (when (list_any (same m) before) (offence rule m.place ∷ [])) (repeated rule (before ++ m ∷ []) ns) _)

-- one more name, noted where it comes again
pub noted_more : (start found more : Option Refusal) (ns : List Name) (n : Name) (was : Bool) →
    found ≡ noted start (repeated N1 [] ns) →
    more ≡ noted found (when was (offence N1 n.place ∷ [])) →
    was ≡ list_any (same n) ns →
    more ≡ noted start (repeated N1 [] (ns ++ n ∷ []))
noted_more start found more ns n was so then_ is =
    then_ ∙ ap (λ b. noted found (when b (offence N1 n.place ∷ []))) is
    ∙ ap (λ f. noted f (when (list_any (same n) ns) (offence N1 n.place ∷ []))) so
    ∙ sym (noted-append start (repeated N1 [] ns) (when (list_any (same n) ns) (offence N1 n.place ∷ [])))
    ∙ ap (noted start) (sym (repeated_push N1 [] ns n))

pub repeated-append : (r : Rule) (before xs ys : List Name) → repeated r before (xs ++ ys) ≡ repeated r before xs ++ repeated r (before ++ xs) ys
repeated-append r before [] ys = ap (λ b. repeated r b ys) (sym (append-nil before))
repeated-append r before (x ∷ xs) ys =
    ap (λ os. when (list_any (same x) before) (offence r x.place ∷ []) ++ os)
    (repeated-append r (before ++ x ∷ []) xs ys ∙ ap (λ b. repeated r (before ++ x ∷ []) xs ++ repeated r b ys) (append_assoc before (x ∷ []) xs))
    ∙ sym (append_assoc (when (list_any (same x) before) (offence r x.place ∷ [])) (repeated r (before ++ x ∷ []) xs) (repeated r (before ++ x ∷ xs) ys))

pub again_noted : (r : Rule) (found more : Option Refusal) (ns : List Name) (n : Name) (was : Bool) →
    more ≡ noted found (when was (offence r n.place ∷ [])) → was ≡ list_any (same n) ns → more ≡ noted found (repeated r ns (n ∷ []))
again_noted r found more ns n was h is =
    h ∙ ap (λ b. noted found (when b (offence r n.place ∷ []))) is ∙ ap (noted found) (sym (append-nil (when (list_any (same n) ns) (offence r n.place ∷ []))))

or_some : (o : Option ℕ) (b : Bool) (k : ℕ) → is_some (option_or o (if b then Some k else None)) ≡ (is_some o || (b || false))
or_some (Some x) b k = refl
or_some None true k = refl
or_some None false k = refl

pub again_has : (old new : Option ℕ) (ns : List Name) (n : Name) (k : ℕ) (q : List ℕ) → is_some old ≡ list_any (λ m. is_same_name q m.text) ns →
    new ≡ option_or old (if is_same_name q n.text then Some k else None) → is_some new ≡ list_any (λ m. is_same_name q m.text) (ns ++ n ∷ [])
again_has old new ns n k q has is =
    ap is_some is ∙ or_some old (is_same_name q n.text) k ∙ ap (λ b. b || (is_same_name q n.text || false)) has ∙ sym (list_any-append (λ m. is_same_name q m.text) ns (n ∷ []))

-- one more element that brings names
pub names_more : {X Y : Type 0} (names : Y → List Name) (view : X → Y) (xs : List X) (i : ℕ) (d : X) → i < length xs →
    flat_map names (map view (take (i + 1) xs)) ≡ flat_map names (map view (take i xs)) ++ names (view (get_or xs i d))
names_more names view xs i d h =
    ap (flat_map names) (map_more view xs i d h) ∙ flat_map-append names (map view (take i xs)) (view (get_or xs i d) ∷ [])
    ∙ ap (λ ns. flat_map names (map view (take i xs)) ++ ns) (append-nil (names (view (get_or xs i d))))

pub noted_next : (r : Rule) (start found more : Option Refusal) (ns new : List Name) →
    found ≡ noted start (repeated r [] ns) → more ≡ noted found (repeated r ns new) → more ≡ noted start (repeated r [] (ns ++ new))
noted_next r start found more ns new so h =
    h ∙ ap (λ f. noted f (repeated r ns new)) so ∙ sym (noted-append start (repeated r [] ns) (repeated r ns new))
    ∙ ap (noted start) (sym (repeated-append r [] ns new))

-- one more element that breaks rules
pub flat_noted : {X : Type 0} (f : X → List Refusal) (start found more : Option Refusal) (xs : List X) (i : ℕ) (d : X) → i < length xs →
    found ≡ noted start (flat_map f (take i xs)) → more ≡ noted found (f (get_or xs i d)) → more ≡ noted start (flat_map f (take (i + 1) xs))
flat_noted f start found more xs i d h so is =
    is ∙ ap (λ z. noted z (f (get_or xs i d))) so ∙ sym (noted-append start (flat_map f (take i xs)) (f (get_or xs i d)))
    ∙ ap (noted start)
    (sym (ap (flat_map f) (take_more xs i d h) ∙ flat_map-append f (take i xs) (get_or xs i d ∷ [])
    ∙ ap (λ os. flat_map f (take i xs) ++ os) (append-nil (f (get_or xs i d)))))

-- ---- tables along a walk

pub has_same : (t : Table) (as_ bs : List Name) → as_ ≡ bs → Has t as_ → Has t bs
has_same t as_ bs e h q = h q ∙ ap (list_any (λ n. is_same_name q n.text)) e

flat_more : {X Y : Type 0} (f : X → List Y) (xs : List X) (i : ℕ) (d : X) → i < length xs → flat_map f (take (i + 1) xs) ≡ flat_map f (take i xs) ++ f (get_or xs i d)
flat_more f xs i d h =
    ap (flat_map f) (take_more xs i d h) ∙ flat_map-append f (take i xs) (get_or xs i d ∷ []) ∙ ap (λ l. flat_map f (take i xs) ++ l) (append-nil (f (get_or xs i d)))

-- one more element whose names are entered
pub has_more : {X : Type 0} (f : X → List Name) (t : Table) (ns : List Name) (xs : List X) (i : ℕ) (d x : X) → i < length xs → x ≡ get_or xs i d →
    Has t ((ns ++ flat_map f (take i xs)) ++ f x) → Has t (ns ++ flat_map f (take (i + 1) xs))
has_more f t ns xs i d x lt is h =
    has_same t _ _
    (append_assoc ns (flat_map f (take i xs)) (f x) ∙ ap (λ y. ns ++ (flat_map f (take i xs) ++ f y)) is ∙ ap (λ l. ns ++ l) (sym (flat_more f xs i d lt))) h
