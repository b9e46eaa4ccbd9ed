-- Lists that are told one element after another.
use Rattle.std.proofs.Common.{◌≡◌, ◌⊎◌, ℕ, zero, suc, ◌+◌, ◌<◌, ◌++◌, Bool, true, false, List, [], ◌∷◌, drop, length, refl, subst, sym, ap, ◌∙◌, inl, inr, arith, append_assoc, append-nil}
use Rattle.std.specs.Prelude.{Some, None, Contains, find, flat_map, not, slice_index_or}
use Rattle.std.specs.List.{list_all}
use Rattle.std.proofs.lemmas.Bool.{and_from, cases_Bool, cond-true, cond-false}
use Rattle.std.proofs.lemmas.Option.{same_Some}
use Rattle.ps_model.proofs.Rest.{rest_at}

-- ---- What stands in a list.

pub first_in : {X : Type 0} (x : X) (xs : List X) → Contains (x ∷ xs) x
first_in x xs = (0, omega arith, refl)

pub behind_in : {X : Type 0} (x y : X) (xs : List X) → Contains xs y → Contains (x ∷ xs) y
behind_in x y xs h = (suc h.0, omega (arith, h.1), h.2)

pub none_in : {X : Type 0} {P : Type 0} (x : X) → Contains [] x → P
none_in x h = absurd (omega (arith, h.1))

-- one of a list is the first, or stands behind it
pub in_cases : {X : Type 0} (x y : X) (xs : List X) → Contains (x ∷ xs) y → (x ≡ y) ⊎ Contains xs y
in_cases x y xs (zero, below, is) = inl is
in_cases x y xs (suc k, below, is) = inr (k, omega (arith, below), is)

-- ---- What is left to tell.

-- one element more
pub told_next : {X Y : Type 0} (f : X → List Y) (x : X) (xs rest : List X) (told told' all : List Y) → xs ≡ x ∷ rest → told ++ flat_map f xs ≡ all →
    told' ≡ told ++ f x → told' ++ flat_map f rest ≡ all
told_next f x xs rest told told' all next h is =
    ap (λ l. l ++ flat_map f rest) is ∙ append_assoc told (f x) (flat_map f rest) ∙ ap (λ l. told ++ flat_map f l) (sym next) ∙ h

-- nothing is left
pub told_end : {X Y : Type 0} (f : X → List Y) (xs : List X) (told all : List Y) → xs ≡ [] → told ++ flat_map f xs ≡ all → told ≡ all
told_end f xs told all end h = sym (append-nil told) ∙ sym (ap (λ l. told ++ flat_map f l) end) ∙ h

-- ---- The first that passes.

module _ {X : Type 0} (p : X → Bool) (xs : List X) (i : ℕ) (x : X) (within : i < length xs) (at : x ≡ slice_index_or xs i x) where
  pub find_next : p x ≡ false → find p (drop i xs) ≡ find p (drop (i + 1) xs)
  find_next off = ap (find p) (rest_at xs i x within at) ∙ cond-false (p x) (Some x) (find p (drop (i + 1) xs)) off

  pub find_here : p x ≡ true → find p (drop i xs) ≡ Some x
  find_here on = ap (find p) (rest_at xs i x within at) ∙ cond-true (p x) (Some x) (find p (drop (i + 1) xs)) on

-- none passes, or the first that does is found
pub find_cases : {X : Type 0} (p : X → Bool) (xs : List X) →
    ((find (λ x. not (p x)) xs ≡ None) × (list_all p xs ≡ true))
    ⊎ ((x : X) × (find (λ x. not (p x)) xs ≡ Some x) × Contains xs x × (p x ≡ false))
find_cases p [] = inl (refl, refl)
find_cases p (x ∷ xs) =
    elim (cases_Bool (p x)) [
      | inl on ↦
          let next = cond-false (not (p x)) (Some x) (find (λ x. not (p x)) xs) (ap not on) in
          elim (find_cases p xs) [
            | inl h ↦ inl (next ∙ h.0, and_from (p x) (list_all p xs) on h.1)
            | inr h ↦ inr (h.0, next ∙ h.1, behind_in x h.0 xs h.2, h.3)
          ]
      | inr off ↦ inr (x, cond-true (not (p x)) (Some x) (find (λ x. not (p x)) xs) (ap not off), first_in x xs, off)
    ]

pub find_none : {X : Type 0} (p : X → Bool) (xs : List X) → find (λ x. not (p x)) xs ≡ None → list_all p xs ≡ true
find_none p xs h = elim (find_cases p xs) [ inl all ↦ all.1 | inr one ↦ absurd (let clash = sym h ∙ one.1 in cc) ]

pub find_some : {X : Type 0} (p : X → Bool) (xs : List X) (x : X) → find (λ x. not (p x)) xs ≡ Some x → Contains xs x × (p x ≡ false)
find_some p xs x h = elim (find_cases p xs) [
  | inl all ↦ absurd (let clash = sym h ∙ all.0 in cc)
  | inr one ↦
      let same : one.0 ≡ x = same_Some one.0 x (sym one.1 ∙ h) in
      (subst (Contains xs) same one.2, subst (λ y. p y ≡ false) same one.3)
]
