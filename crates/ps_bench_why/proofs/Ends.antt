-- A list with one more at its end.
use Rattle.std.proofs.Common.{◌≡◌, ◌⊎◌, ◌<◌, ℕ, zero, suc, List, [], ◌∷◌, ◌++◌, Some, None, length, inl, inr, refl, ap, arith}
use Rattle.std.specs.Prelude.{slice_get}
use Rattle.std.proofs.lemmas.Option.{same_Some}

pub at_front : {X : Type 0} (xs : List X) (x : X) (i : ℕ) → i < length xs → slice_get (xs ++ x ∷ []) i ≡ slice_get xs i
at_front [] x i within = absurd (omega arith)
at_front (y ∷ ys) x zero within = refl
at_front (y ∷ ys) x (suc i) within = at_front ys x i (omega arith)

pub at_last : {X : Type 0} (xs : List X) (x : X) → slice_get (xs ++ x ∷ []) (length xs) ≡ Some x
at_last [] x = refl
at_last (y ∷ ys) x = at_last ys x

pub front_or_last : {X : Type 0} (xs : List X) (x : X) (i : ℕ) (a : X) → slice_get (xs ++ x ∷ []) i ≡ Some a → (slice_get xs i ≡ Some a) ⊎ ((i ≡ length xs) × (x ≡ a))
front_or_last [] x zero a at = inr (refl, same_Some x a at)
front_or_last [] x (suc i) a at = let no : None ≡ Some a = at in cc
front_or_last (y ∷ ys) x zero a at = inl at
front_or_last (y ∷ ys) x (suc i) a at =
    elim (front_or_last ys x i a at) [
      | inl here ↦ inl here
      | inr last ↦ inr (ap suc last.0, last.1)
    ]

pub more_long : {X : Type 0} (xs : List X) (x : X) → length (xs ++ x ∷ []) ≡ suc (length xs)
more_long [] x = refl
more_long (y ∷ ys) x = ap suc (more_long ys x)
