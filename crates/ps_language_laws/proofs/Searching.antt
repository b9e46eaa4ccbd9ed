-- Where a thing is decided at each number, it has a first number below a bound, or none.
use Rattle.std.proofs.Common.{◌≡◌, ◌≢◌, ℕ, zero, suc, ◌<◌, ◌⊎◌, inl, inr, List, Option, Some, None, length, refl, sym, ap, ◌∙◌, subst, ⊎_elim, arith}
use Rattle.std.specs.Prelude.{slice_get}
use Rattle.std.proofs.lemmas.Bool.{cases_Bool, cases_lt}
use Rattle.std.proofs.lemmas.Bool.Decides.{not_from_Decides}
use Rattle.std.proofs.lemmas.Option.{same_Some, slice_get_within}
use Rattle.std.proofs.lemmas.Slice.Eq.{bytes_eq-Decides}
use Rattle.std.specs.Str.{bytes_eq}

-- Below a bound one thing holds first at a number, and at each number before it the other.
pub record FirstBelow (P Q : ℕ → Type 0) (bound : ℕ) : Type 0 where
  pub at : ℕ
  pub below : at < bound
  pub holds : Q at
  pub before : (k : ℕ) → k < at → P k

-- the same below a larger bound
wider : (P Q : ℕ → Type 0) (n : ℕ) → FirstBelow P Q n → FirstBelow P Q (suc n)
wider P Q n f = let below = f.below in record { at = f.at; below = omega arith; holds = f.holds; before = f.before }

-- below one more number
next_below : (P : ℕ → Type 0) (n : ℕ) → ((k : ℕ) → k < n → P k) → P n → (k : ℕ) → k < suc n → P k
next_below P n all here k lt = ⊎_elim (λ less. all k less) (λ past. let same : n ≡ k = omega arith in subst P same here) (cases_lt k n)

pub first_below : (P Q : ℕ → Type 0) → ((k : ℕ) → P k ⊎ Q k) → (bound : ℕ) → FirstBelow P Q bound ⊎ ((k : ℕ) → k < bound → P k)
first_below P Q each zero = inr (λ k lt. absurd (omega arith))
first_below P Q each (suc n) = by (first_below P Q each n) (each n)
  where
    by : FirstBelow P Q n ⊎ ((k : ℕ) → k < n → P k) → P n ⊎ Q n → FirstBelow P Q (suc n) ⊎ ((k : ℕ) → k < suc n → P k)
    by (inl f) here = inl (wider P Q n f)
    by (inr all) (inl p) = inr (next_below P n all p)
    by (inr all) (inr q) = inl (record { at = n; below = omega arith; holds = q; before = all })

-- Of a list one item is the first of which a thing holds, and of each before it the other does.
pub record FirstItem {X : Type 0} (P Q : ℕ → X → Type 0) (xs : List X) : Type 0 where
  pub at : ℕ
  pub item : X
  pub here : slice_get xs at ≡ Some item
  pub holds : Q at item
  pub before : (k : ℕ) (x : X) → k < at → slice_get xs k ≡ Some x → P k x

module _ {X : Type 0} (P Q : ℕ → X → Type 0) (each : (k : ℕ) (x : X) → P k x ⊎ Q k x) (xs : List X) where
  -- of the item of this number, where there is one
  abbrev HoldsAt : ℕ → Type 0
  HoldsAt k = (x : X) → slice_get xs k ≡ Some x → P k x

  -- there is one, and of it the second thing holds
  abbrev IsOneAt : ℕ → Type 0
  IsOneAt k = (x : X) × (slice_get xs k ≡ Some x) × Q k x

  item_decided : (k : ℕ) → HoldsAt k ⊎ IsOneAt k
  item_decided k = by (slice_get xs k) refl
    where
      by : (o : Option X) → slice_get xs k ≡ o → HoldsAt k ⊎ IsOneAt k
      by None is = inl (λ x at. let both : None ≡ Some x = sym is ∙ at in cc)
      by (Some x) is = ⊎_elim (λ p. inl (λ y at. subst (P k) (same_Some x y (sym is ∙ at)) p)) (λ q. inr (x, is, q)) (each k x)

  pub first_item : FirstItem P Q xs ⊎ ((k : ℕ) (x : X) → slice_get xs k ≡ Some x → P k x)
  first_item = by (first_below HoldsAt IsOneAt item_decided (length xs))
    where
      by : FirstBelow HoldsAt IsOneAt (length xs) ⊎ ((k : ℕ) → k < length xs → HoldsAt k) → FirstItem P Q xs ⊎ ((k : ℕ) (x : X) → slice_get xs k ≡ Some x → P k x)
      by (inl f) = let one = f.holds in inl (record { at = f.at; item = one.0; here = one.1; holds = one.2; before = λ k x lt at. f.before k lt x at })
      by (inr all) = inr (λ k x at. all k (slice_get_within xs k x at) x at)

-- two texts are one, or they differ
pub same_text : (xs ys : List ℕ) → (xs ≡ ys) ⊎ (xs ≢ ys)
same_text xs ys =
    let test = bytes_eq-Decides xs ys in ⊎_elim (λ same. inl (test.0 same)) (λ other. inr (not_from_Decides (bytes_eq xs ys) test other)) (cases_Bool (bytes_eq xs ys))

-- a text is the spelling of one of some items that are numbered, or of none
module _ {X : Type 0} (item : ℕ → X) (number : X → ℕ) (bound : ℕ) (numbered : (x : X) → item (number x) ≡ x) (below : (x : X) → number x < bound) (spelling : X → List ℕ) (text : List ℕ) where
  abbrev IsOther : ℕ → Type 0
  IsOther n = text ≡ spelling (item n) → ⊥

  abbrev IsThat : ℕ → Type 0
  IsThat n = text ≡ spelling (item n)

  told_apart : (n : ℕ) → IsOther n ⊎ IsThat n
  told_apart n = ⊎_elim (λ same. inr same) (λ other. inl other) (same_text text (spelling (item n)))

  pub one_of : ((x : X) × (text ≡ spelling x)) ⊎ ((x : X) → text ≡ spelling x → ⊥)
  one_of = by (first_below IsOther IsThat told_apart bound)
    where
      by : FirstBelow IsOther IsThat bound ⊎ ((n : ℕ) → n < bound → IsOther n) → ((x : X) × (text ≡ spelling x)) ⊎ ((x : X) → text ≡ spelling x → ⊥)
      by (inl f) = inl (item f.at, f.holds)
      by (inr none) = inr (λ x e. none (number x) (below x) (e ∙ ap spelling (sym (numbered x))))
