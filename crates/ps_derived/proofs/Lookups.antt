-- The first item with a name: by its place in a table, and seen as another.
use Rattle.std.proofs.Common.{◌≡◌, ℕ, ◌<◌, ◌≤◌, Bool, true, false, List, [], ◌∷◌, None, Some, map, position, get_or, length, slice_get, nat_lt, cond, refl, sym, ap, ◌∙◌, arith}
use Rattle.std.specs.List.{find, position_or_len}
use Rattle.std.specs.Option.{option_map}
use Rattle.std.proofs.lemmas.Bool.Decides.{nat_tests}
use Rattle.std.proofs.lemmas.List.Folds.{find_at}
use Rattle.std.proofs.lemmas.Option.{slice_get_past, slice_get-get_or}
use Rattle.ps_parser.specs.declared.name.Name.{Name}
use Rattle.ps_parser.specs.declared.section.Part.{Part}
use Rattle.ps_parser.specs.declared.section.Part.TheVariants.{Input, Output, Local}
use Rattle.ps_derived.specs.Bodies.{same, type_in}
use Rattle.ps_derived.specs.Counting.{item_at}

item_passed : {X : Type 0} (xs : List X) (k : ℕ) (b : Bool) → b ≡ nat_lt k (length xs) → slice_get xs k ≡ item_at xs (cond b (Some k) None)
item_passed xs k true e = refl
item_passed xs k false e = slice_get_past xs k (grind (arith, nat_tests))

pub found_item : {X : Type 0} (p : X → Bool) (xs : List X) → find p xs ≡ item_at xs (position p xs)
found_item p xs = find_at p xs ∙ item_passed xs (position_or_len p xs) (nat_lt (position_or_len p xs) (length xs)) refl

-- seen as another
pub found_map : {X Y : Type 0} (f : X → Y) (p : Y → Bool) (xs : List X) → find p (map f xs) ≡ option_map f (find (λ x. p (f x)) xs)
found_map f p [] = refl
found_map f p (x ∷ xs) = by (p (f x)) (found_map f p xs)
  where
    by : (b : Bool) → find p (map f xs) ≡ option_map f (find (λ x. p (f x)) xs) → cond b (Some (f x)) (find p (map f xs)) ≡ option_map f (cond b (Some x) (find (λ x. p (f x)) xs))
    by true h = refl
    by false h = h

-- it is there
pub found_at : {X : Type 0} (p : X → Bool) (xs : List X) (k : ℕ) (x : X) → Some k ≡ position p xs → k < length xs → x ≡ get_or xs k x → Some x ≡ find p xs
found_at p xs k x at within is = sym (found_item p xs ∙ ap (item_at xs) (sym at) ∙ slice_get-get_or xs k x within ∙ ap Some (sym is))

-- it is not there
pub found_none : {X : Type 0} (p : X → Bool) (xs : List X) → None ≡ position p xs → None ≡ find p xs
found_none p xs at = sym (found_item p xs ∙ ap (item_at xs) (sym at))

-- it is after the end
pub found_past : {X : Type 0} (p : X → Bool) (xs : List X) (k : ℕ) → Some k ≡ position p xs → length xs ≤ k → None ≡ find p xs
found_past p xs k at past = sym (found_item p xs ∙ ap (item_at xs) (sym at) ∙ slice_get_past xs k past)

-- what a type is, seen as another
pub type_map : {X Y : Type 0} (f : X → Y) (name_of : Y → Name) (xs : List X) (part : Part) (ty : Name) →
    type_in name_of (map f xs) part ty ≡ option_map f (type_in (λ x. name_of (f x)) xs part ty)
type_map f name_of xs Input ty = refl
type_map f name_of xs Output ty = refl
type_map f name_of xs Local ty = found_map f (λ y. same ty (name_of y)) xs
