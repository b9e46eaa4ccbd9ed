-- What is seen after a scan, point by point.
use Rattle.std.proofs.Common.{◌≡◌, ℕ, ◌<◌, ◌≤◌, ◌⊎◌, inl, inr, ◌||◌, ◌+◌, Bool, false, List, length, set, slice_get, Some, ap, subst, ◌∙◌, arith}
use Rattle.std.specs.Prelude.{slice_index_or}
use Rattle.std.proofs.lemmas.Bool.{cases_lt}
use Rattle.std.proofs.lemmas.List.{get_or-set_other, get_or-set_same, length-set}
use Rattle.std.proofs.lemmas.Option.{get_or_from_slice_get}

-- the points before a place were looked at, and the others not
pub record Looked {P : Type 0} (shows : P → Bool) (points : List P) (before now : List Bool) (n : ℕ) : Type 0 where
  pub each : length now ≡ length before
  pub done : (m : ℕ) (p : P) → m < n → slice_get points m ≡ Some p → slice_index_or now m false ≡ (slice_index_or before m false || shows p)
  pub left : (m : ℕ) → n ≤ m → slice_index_or now m false ≡ slice_index_or before m false

-- one more
pub look_at : {P : Type 0} (shows : P → Bool) (points : List P) (before now : List Bool) (n : ℕ) → Looked shows points before now n →
    (b : Bool) (d : P) → n < length now → b ≡ (slice_index_or now n false || shows (slice_index_or points n d)) →
    Looked shows points before (set now n b) (n + 1)
look_at {P} shows points before now n l b d within is = record {
  each = length-set now n b ∙ l.each;
  done = λ m p q at. done_by m p q at (cases_lt m n);
  left = λ m q. get_or-set_other now n m b false (λ e. omega (arith, e)) ∙ l.left m (omega arith);
}
  where
    done_by : (m : ℕ) (p : P) → m < n + 1 → slice_get points m ≡ Some p → (m < n) ⊎ (n ≤ m) →
        slice_index_or (set now n b) m false ≡ (slice_index_or before m false || shows p)
    done_by m p q at (inl r) = get_or-set_other now n m b false (λ e. omega (arith, e)) ∙ l.done m p r at
    done_by m p q at (inr r) =
        let e : n ≡ m = omega arith in
        let here : slice_get points n ≡ Some p = ap (slice_get points) e ∙ at in
        subst (λ k. slice_index_or (set now n b) k false ≡ (slice_index_or before k false || shows p)) e
        (get_or-set_same now n b false within ∙ is
        ∙ (λ i. l.left n (omega arith) i || shows (get_or_from_slice_get points n p d here i)))

-- the places before one were joined with those of another list, and the others not
pub record Joined (others before now : List Bool) (n : ℕ) : Type 0 where
  pub each : length now ≡ length before
  pub done : (m : ℕ) → m < n → slice_index_or now m false ≡ (slice_index_or before m false || slice_index_or others m false)
  pub left : (m : ℕ) → n ≤ m → slice_index_or now m false ≡ slice_index_or before m false

-- one more
pub join_at : (others before now : List Bool) (n : ℕ) → Joined others before now n → (b : Bool) → n < length now →
    b ≡ (slice_index_or now n false || slice_index_or others n false) → Joined others before (set now n b) (n + 1)
join_at others before now n l b within is = record {
  each = length-set now n b ∙ l.each;
  done = λ m p. done_by m p (cases_lt m n);
  left = λ m q. get_or-set_other now n m b false (λ e. omega (arith, e)) ∙ l.left m (omega arith);
}
  where
    done_by : (m : ℕ) → m < n + 1 → (m < n) ⊎ (n ≤ m) →
        slice_index_or (set now n b) m false ≡ (slice_index_or before m false || slice_index_or others m false)
    done_by m p (inl r) = get_or-set_other now n m b false (λ e. omega (arith, e)) ∙ l.done m r
    done_by m p (inr r) =
        let e : n ≡ m = omega arith in
        subst (λ k. slice_index_or (set now n b) k false ≡ (slice_index_or before k false || slice_index_or others k false)) e
        (get_or-set_same now n b false within ∙ is ∙ ap (λ v. v || slice_index_or others n false) (l.left n (omega arith)))
