-- What is so of all that the elements of a list give is so of what one of them gives.
use Rattle.std.proofs.Common.{◌≡◌, ℕ, zero, suc, ◌+◌, List, [], ◌∷◌, ◌++◌, length, subst, arith, length-append, Some}
use Rattle.std.specs.Prelude.{slice_get, All}
use Rattle.std.specs.List.{flat_map}
use Rattle.std.proofs.lemmas.List.{get_or_append_left, get_or-append-add}

all_before : {X : Type 0} (P : X → Type 0) (xs ys : List X) → All P (xs ++ ys) → All P xs
all_before P xs ys h k d low = subst P (get_or_append_left xs ys d k low) (h k d (omega (arith, length-append xs ys)))

all_after : {X : Type 0} (P : X → Type 0) (xs ys : List X) → All P (xs ++ ys) → All P ys
all_after P xs ys h k d low = subst P (get_or-append-add xs ys k d) (h (length xs + k) d (omega (arith, length-append xs ys)))

pub all_part : {X Y : Type 0} (P : Y → Type 0) (f : X → List Y) (xs : List X) → All P (flat_map f xs) → (k : ℕ) (x : X) → slice_get xs k ≡ Some x → All P (f x)
all_part P f [] h k x at = absurd cc
all_part P f (y ∷ xs) h zero x at =
    let same : y ≡ x = cc in
    subst (λ z. All P (f z)) same (all_before P (f y) (flat_map f xs) h)
all_part P f (y ∷ xs) h (suc k) x at = all_part P f xs (all_after P (f y) (flat_map f xs) h) k x at
