-- The first place in a list that passes a test.
use Rattle.std.proofs.Common.{◌≡◌, ℕ, zero, suc, ◌+◌, ◌≤◌, ◌<◌, Bool, true, false, cond, List, [], ◌∷◌, ◌++◌, take, drop, length, Some, None, refl, sym, ap, ◌∙◌, inl, inr, ⊎_elim, arith, eqb}
use Rattle.std.specs.Prelude.{count_by, slice_get, nat_lt, position, not}
use Rattle.std.specs.List.{position_or_len, list_any}
use Rattle.std.specs.Option.{option_or}
use Rattle.std.proofs.lemmas.List.{length-append}
use Rattle.std.proofs.lemmas.List.Quantifiers.{position-Some}
use Rattle.std.proofs.lemmas.List.Sums.{prefix_len-le-length, position_or_len_is, fails_before_first, passes_at_first}
use Rattle.std.proofs.lemmas.List.Folds.{position_or_len_push}
use Rattle.std.proofs.lemmas.Option.{get_or_from_slice_get, slice_get_within}
use Rattle.std.proofs.lemmas.Bool.{cases_Bool, cases_lt, cond-true, cond-false, lt-ltb, le-ltb, eq-eqb, ne_eqb, or_parts, true≢false}
use Rattle.ps_model.proofs.Once.{element_at, alone_before}

-- what no element passes from a place on, none at a later place does
pub fails_later : {X : Type 0} (p : X → Bool) (xs : List X) (j m : ℕ) (x : X) → list_any p (drop j xs) ≡ false → j ≤ m → slice_get xs m ≡ Some x → p x ≡ false
fails_later p [] j m x none later at = cc
fails_later p (y ∷ xs) zero zero x none later at =
    let e : y ≡ x = cc in ap p (sym e) ∙ (or_parts (p y) (list_any p xs) none).0
fails_later p (y ∷ xs) zero (suc m) x none later at =
    fails_later p xs zero m x ((or_parts (p y) (list_any p xs) none).1) (omega arith) at
fails_later p (y ∷ xs) (suc j) zero x none later at = absurd (omega arith)
fails_later p (y ∷ xs) (suc j) (suc m) x none later at = fails_later p xs j m x none (omega arith) at

-- what no element passes up to a place, none at an earlier place does
pub fails_before : {X : Type 0} (p : X → Bool) (xs : List X) (k m : ℕ) (x : X) → list_any p (take k xs) ≡ false → m < k → slice_get xs m ≡ Some x → p x ≡ false
fails_before p [] k m x none earlier at = cc
fails_before p (y ∷ xs) zero m x none earlier at = absurd (omega arith)
fails_before p (y ∷ xs) (suc k) zero x none earlier at =
    let e : y ≡ x = cc in ap p (sym e) ∙ (or_parts (p y) (list_any p (take k xs)) none).0
fails_before p (y ∷ xs) (suc k) (suc m) x none earlier at =
    fails_before p xs k m x ((or_parts (p y) (list_any p (take k xs)) none).1) (omega arith) at

module _ {X : Type 0} (p : X → Bool) where
  position_inside : (xs : List X) (n : ℕ) → position_or_len p xs ≡ n → n < length xs → position p xs ≡ Some n
  position_inside xs n e h =
      cond-true (nat_lt (position_or_len p xs) (length xs)) (Some (position_or_len p xs)) None (lt-ltb (position_or_len p xs) (length xs) (omega arith)) ∙ ap Some e

  position_past : (xs : List X) → length xs ≤ position_or_len p xs → position p xs ≡ None
  position_past xs h = cond-false (nat_lt (position_or_len p xs) (length xs)) (Some (position_or_len p xs)) None (le-ltb (position_or_len p xs) (length xs) h)

  -- what stands at the first place that passes
  pub found_at : (xs : List X) (k : ℕ) → position p xs ≡ Some k → (x : X) × (slice_get xs k ≡ Some x) × (p x ≡ true)
  found_at [] k h = cc
  found_at (y ∷ ys) k h =
      let is = position-Some p (y ∷ ys) k y h in
      let here = element_at (y ∷ ys) k is.0 in
      (here.0, here.1, ap p (sym (get_or_from_slice_get (y ∷ ys) k here.0 y here.1)) ∙ is.1)

  -- where there is none, no element passes
  pub none_found : (xs : List X) → position p xs ≡ None → (k : ℕ) (x : X) → slice_get xs k ≡ Some x → p x ≡ false
  none_found xs h k x at =
      let within = slice_get_within xs k x at in
      elim (cases_lt (position_or_len p xs) (length xs)) [
        | inl inside ↦ let some : Some (position_or_len p xs) ≡ None = sym (position_inside xs (position_or_len p xs) refl inside) ∙ h in cc
        | inr past ↦ ap p (sym (get_or_from_slice_get xs k x x at)) ∙ fails_before_first p xs k x (omega arith)
      ]

  pub none_found_from : (xs : List X) → ((k : ℕ) (x : X) → slice_get xs k ≡ Some x → p x ≡ false) → position p xs ≡ None
  none_found_from xs none =
      elim (cases_lt (position_or_len p xs) (length xs)) [
        | inl inside ↦
            let here = element_at xs (position_or_len p xs) inside in
            let passes : p here.0 ≡ true = ap p (sym (get_or_from_slice_get xs (position_or_len p xs) here.0 here.0 here.1)) ∙ passes_at_first p xs here.0 inside in
            absurd (true≢false (sym passes ∙ none (position_or_len p xs) here.0 here.1))
        | inr past ↦ position_past xs past
      ]

  -- the only element that passes is the first
  pub position_alone : (xs : List X) (k : ℕ) (x : X) → count_by p xs ≤ 1 → slice_get xs k ≡ Some x → p x ≡ true → position p xs ≡ Some k
  position_alone xs k x few at here =
      let within = slice_get_within xs k x at in
      position_inside xs k
      (position_or_len_is p xs k x (omega arith)
      (λ m below.
      let earlier = element_at xs m (omega arith) in
      ap p (get_or_from_slice_get xs m earlier.0 x earlier.1) ∙ fails_before p xs k m earlier.0 (alone_before p xs few k x at here) below earlier.1)
      (λ _. ap p (get_or_from_slice_get xs k x x at) ∙ here))
      within

  -- one element more
  pub position_more : (xs : List X) (y : X) → position p (xs ++ y ∷ []) ≡ option_or (position p xs) (cond (p y) (Some (length xs)) None)
  position_more xs y =
      let all = xs ++ y ∷ [] in
      let size : length all ≡ length xs + 1 = omega (arith, length-append xs (y ∷ [])) in
      let more = position_or_len_push p xs y in
      elim (cases_lt (position_or_len p xs) (length xs)) [
        | inl inside ↦
            let first : position_or_len p all ≡ position_or_len p xs =
            more ∙ cond-false {A = ℕ} (eqb (position_or_len p xs) (length xs)) (length xs + cond (p y) 0 1) (position_or_len p xs) (ne_eqb (position_or_len p xs) (length xs) (λ e. omega arith)) in
            position_inside all (position_or_len p xs) first (omega arith)
            ∙ ap (λ o. option_or o (cond (p y) (Some (length xs)) None)) (sym (position_inside xs (position_or_len p xs) refl inside))
        | inr past ↦
            let most : position_or_len p xs ≡ length xs = omega (arith, prefix_len-le-length (λ x. not (p x)) xs) in
            let first : position_or_len p all ≡ length xs + cond (p y) 0 1 =
            more ∙ cond-true {A = ℕ} (eqb (position_or_len p xs) (length xs)) (length xs + cond (p y) 0 1) (position_or_len p xs) (eq-eqb (position_or_len p xs) (length xs) most) in
            ⊎_elim
            (λ passes.
            let here : position_or_len p all ≡ length xs = omega (arith, first, cond-true {A = ℕ} (p y) 0 1 passes) in
            position_inside all (length xs) here (omega arith)
            ∙ sym (cond-true (p y) (Some (length xs)) None passes)
            ∙ ap (λ o. option_or o (cond (p y) (Some (length xs)) None)) (sym (position_past xs past)))
            (λ fails.
            let end : position_or_len p all ≡ length xs + 1 = omega (arith, first, cond-false {A = ℕ} (p y) 0 1 fails) in
            position_past all (omega arith)
            ∙ sym (cond-false (p y) (Some (length xs)) None fails)
            ∙ ap (λ o. option_or o (cond (p y) (Some (length xs)) None)) (sym (position_past xs past)))
            (cases_Bool (p y))
      ]
