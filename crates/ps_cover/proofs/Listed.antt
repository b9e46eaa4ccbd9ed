-- What stands at a place of a list, after a write to a place.
use Rattle.std.proofs.Common.{◌≡◌, ◌≢◌, ℕ, zero, suc, ◌<◌, ◌≤◌, ◌⊎◌, inl, inr, ◌+◌, List, [], ◌∷◌, length, set, slice_get, Some, None, refl, sym, ap, subst, ◌∙◌, arith}
use Rattle.std.specs.Prelude.{option_map}
use Rattle.std.proofs.lemmas.Bool.{cases_lt}
use Rattle.std.proofs.lemmas.List.{length-set}
use Rattle.std.proofs.lemmas.Option.{slice_get_past}

pub set_same : {X : Type 0} (xs : List X) (i : ℕ) (x : X) → i < length xs → slice_get (set xs i x) i ≡ Some x
set_same [] i x within = absurd (omega arith)
set_same (y ∷ xs) zero x within = refl
set_same (y ∷ xs) (suc i) x within = set_same xs i x (omega arith)

pub set_other : {X : Type 0} (xs : List X) (i j : ℕ) (x : X) → j ≢ i → slice_get (set xs i x) j ≡ slice_get xs j
set_other [] i j x other = refl
set_other (y ∷ xs) zero zero x other = absurd (other refl)
set_other (y ∷ xs) zero (suc j) x other = refl
set_other (y ∷ xs) (suc i) zero x other = refl
set_other (y ∷ xs) (suc i) (suc j) x other = set_other xs i j x (λ e. other (ap suc e))

-- of a list whose elements become others in order: those before a place have become so, and the others are as they were
pub record Turned {X : Type 0} (f : X → X) (before now : List X) (n : ℕ) : Type 0 where
  pub each : length now ≡ length before
  pub done : (k : ℕ) → k < n → slice_get now k ≡ option_map f (slice_get before k)
  pub left : (k : ℕ) → n ≤ k → slice_get now k ≡ slice_get before k

module _ {X : Type 0} (f : X → X) (before now : List X) (n : ℕ) (t : Turned f before now n) where
  -- one more
  pub turn : (x : X) → slice_get now n ≡ Some x → n < length now → Turned f before (set now n (f x)) (n + 1)
  turn x at within = record {
    each = length-set now n (f x) ∙ t.each;
    done = λ k p. done_by k p (cases_lt k n);
    left = λ k p. set_other now n k (f x) (λ e. omega (arith, e)) ∙ t.left k (omega arith);
  }
    where
      done_by : (k : ℕ) → k < n + 1 → (k < n) ⊎ (n ≤ k) → slice_get (set now n (f x)) k ≡ option_map f (slice_get before k)
      done_by k p (inl q) = set_other now n k (f x) (λ e. omega (arith, e)) ∙ t.done k q
      done_by k p (inr q) =
          let e : n ≡ k = omega arith in
          subst (λ m. slice_get (set now n (f x)) m ≡ option_map f (slice_get before m)) e
          (set_same now n (f x) within ∙ ap (option_map f) (sym at ∙ t.left n (omega arith)))

  -- all
  pub turned : n ≡ length now → (k : ℕ) → slice_get now k ≡ option_map f (slice_get before k)
  turned all k = by (cases_lt k n)
    where
      by : (k < n) ⊎ (n ≤ k) → slice_get now k ≡ option_map f (slice_get before k)
      by (inl q) = t.done k q
      by (inr q) =
          let past : slice_get before k ≡ None = slice_get_past before k (omega (arith, t.each, all, q)) in
          t.left k q ∙ past ∙ ap (option_map f) (sym past)
