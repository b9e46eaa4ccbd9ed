-- Names that come once, and what is counted before a place.
use Rattle.std.proofs.Common.{◌≡◌, ℕ, zero, suc, ◌+◌, ◌<◌, ◌≤◌, Bool, true, false, cond, List, [], ◌∷◌, ◌++◌, Some, take, slice_get, refl, sym, ap, subst, ◌∙◌, append_assoc, arith, ◌||◌}
use Rattle.std.specs.Prelude.{count_by}
use Rattle.std.specs.List.{list_any, flat_map}
use Rattle.std.proofs.lemmas.List.{append-nil}
use Rattle.std.proofs.lemmas.List.Sums.{sum_by-cons}
use Rattle.std.proofs.lemmas.List.Folds.{list_any-append}
use Rattle.std.proofs.lemmas.Bool.{or_parts}
use Rattle.ps_parser.specs.declared.name.Name.{Name}
use Rattle.ps_base.specs.declared.failing.Refusal.{Refusal}
use Rattle.ps_base.specs.declared.failing.Rule.{Rule}
use Rattle.ps_names.specs.Offences.{offence, when}
use Rattle.ps_names.specs.Names.{same}
use Rattle.ps_names.specs.Rules.{repeated}

pub none_left : {X : Type 0} (xs ys : List X) → xs ++ ys ≡ [] → xs ≡ []
none_left [] ys h = refl
none_left (x ∷ xs) ys h = cc

pub none_right : {X : Type 0} (xs ys : List X) → xs ++ ys ≡ [] → ys ≡ []
none_right [] ys h = h
none_right (x ∷ xs) ys h = cc

-- what a list has none of, none of its elements brings
pub none_at : {X Y : Type 0} (f : X → List Y) (xs : List X) (k : ℕ) (x : X) → flat_map f xs ≡ [] → slice_get xs k ≡ Some x → f x ≡ []
none_at f [] k x h at = cc
none_at f (y ∷ xs) zero x h at = let e : y ≡ x = cc in ap f (sym e) ∙ none_left (f y) (flat_map f xs) h
none_at f (y ∷ xs) (suc k) x h at = none_at f xs k x (none_right (f y) (flat_map f xs) h) at

pub not_when : (b : Bool) (o : Refusal) → when b (o ∷ []) ≡ [] → b ≡ false
not_when true o h = cc
not_when false o h = refl

repeated_rest : (r : Rule) (before xs ys : List Name) → repeated r before (xs ++ ys) ≡ [] → repeated r (before ++ xs) ys ≡ []
repeated_rest r before [] ys h = ap (λ b. repeated r b ys) (append-nil before) ∙ h
repeated_rest r before (x ∷ xs) ys h =
    ap (λ b. repeated r b ys) (sym (append_assoc before (x ∷ []) xs))
    ∙ repeated_rest r (before ++ x ∷ []) xs ys (none_right (when (list_any (same x) before) (offence r x.place ∷ [])) _ h)

module _ {X : Type 0} (names : X → List Name) (r : Rule) where
  -- a name that does not come again is not among those before
  apart_before : (before : List Name) (xs : List X) (j : ℕ) (y : X) (n : Name) →
      repeated r before (flat_map names xs) ≡ [] → slice_get xs j ≡ Some y → names y ≡ n ∷ [] → list_any (same n) before ≡ false
  apart_before before [] j y n h at is = cc
  apart_before before (x ∷ xs) zero y n h at is =
      let e : names x ≡ n ∷ [] = ap names (let f : x ≡ y = cc in f) ∙ is in
      not_when (list_any (same n) before) (offence r n.place)
      (none_left _ (repeated r (before ++ n ∷ []) (flat_map names xs)) (subst (λ l. repeated r before (l ++ flat_map names xs) ≡ []) e h))
  apart_before before (x ∷ xs) (suc j) y n h at is =
      (or_parts (list_any (same n) before) (list_any (same n) (names x))
      (sym (list_any-append (same n) before (names x))
      ∙ apart_before (before ++ names x) xs j y n (repeated_rest r before (names x) (flat_map names xs) h) at is)).0

  -- two elements with a name each have different names
  pub unrepeated_differ : (before : List Name) (xs : List X) (i j : ℕ) (x y : X) (m n : Name) → i < j →
      repeated r before (flat_map names xs) ≡ [] → slice_get xs i ≡ Some x → slice_get xs j ≡ Some y →
      names x ≡ m ∷ [] → names y ≡ n ∷ [] → same n m ≡ false
  unrepeated_differ before [] i j x y m n ij h ax ay im in_ = cc
  unrepeated_differ before (z ∷ xs) zero zero x y m n ij h ax ay im in_ = absurd (omega arith)
  unrepeated_differ before (z ∷ xs) (suc i) zero x y m n ij h ax ay im in_ = absurd (omega arith)
  unrepeated_differ before (z ∷ xs) zero (suc j) x y m n ij h ax ay im in_ =
      let e : names z ≡ m ∷ [] = ap names (let f : z ≡ x = cc in f) ∙ im in
      let rest = repeated_rest r before (m ∷ []) (flat_map names xs) (subst (λ l. repeated r before (l ++ flat_map names xs) ≡ []) e h) in
      let both = or_parts (list_any (same n) before) (same n m || false)
      (sym (list_any-append (same n) before (m ∷ [])) ∙ apart_before (before ++ m ∷ []) xs j y n rest ay in_) in
      (or_parts (same n m) false both.1).0
  unrepeated_differ before (z ∷ xs) (suc i) (suc j) x y m n ij h ax ay im in_ =
      unrepeated_differ (before ++ names z) xs i j x y m n (omega arith) (repeated_rest r before (names z) (flat_map names xs) h) ax ay im in_

module _ {X : Type 0} (p : X → Bool) where
  none_counted : (xs : List X) → ((j : ℕ) (y : X) → slice_get xs j ≡ Some y → p y ≡ true → ⊥) → count_by p xs ≡ 0
  none_counted [] h = refl
  none_counted (x ∷ xs) h = by (p x) refl (none_counted xs (λ j y. h (suc j) y))
    where
      by : (b : Bool) → p x ≡ b → count_by p xs ≡ 0 → count_by p (x ∷ xs) ≡ 0
      by true e z = absurd (h 0 x refl e)
      by false e z = sum_by-cons (λ x. cond (p x) 1 0) x xs ∙ ap (λ b. cond b 1 0 + count_by p xs) e ∙ omega arith

  -- where no two elements pass, at most one does
  pub at_most_one : (xs : List X) → ((i j : ℕ) (x y : X) → i < j → slice_get xs i ≡ Some x → slice_get xs j ≡ Some y → p x ≡ true → p y ≡ true → ⊥) → count_by p xs ≤ 1
  at_most_one [] h = omega arith
  at_most_one (x ∷ xs) h = by (p x) refl (at_most_one xs (λ i j y z ij. h (suc i) (suc j) y z (omega arith)))
    where
      by : (b : Bool) → p x ≡ b → count_by p xs ≤ 1 → count_by p (x ∷ xs) ≤ 1
      by true e z =
          let none : count_by p xs ≡ 0 = none_counted xs (λ j y at. h 0 (suc j) x y (omega arith) refl at e) in
          let all : count_by p (x ∷ xs) ≡ 1 + count_by p xs = sum_by-cons (λ x. cond (p x) 1 0) x xs ∙ ap (λ b. cond b 1 0 + count_by p xs) e in
          omega arith
      by false e z =
          let all : count_by p (x ∷ xs) ≡ 0 + count_by p xs = sum_by-cons (λ x. cond (p x) 1 0) x xs ∙ ap (λ b. cond b 1 0 + count_by p xs) e in
          omega arith

  -- an element that passes counts for each place after it
  pub count_less : (xs : List X) (j k : ℕ) (x : X) → j < k → slice_get xs j ≡ Some x → p x ≡ true → count_by p (take j xs) < count_by p (take k xs)
  count_less [] j k x h at is = cc
  count_less (y ∷ xs) zero zero x h at is = absurd (omega arith)
  count_less (y ∷ xs) (suc j) zero x h at is = absurd (omega arith)
  count_less (y ∷ xs) zero (suc k) x h at is =
      let e : p y ≡ true = ap p (let f : y ≡ x = cc in f) ∙ is in
      let all : count_by p (y ∷ take k xs) ≡ 1 + count_by p (take k xs) = sum_by-cons (λ x. cond (p x) 1 0) y (take k xs) ∙ ap (λ b. cond b 1 0 + count_by p (take k xs)) e in
      omega arith
  count_less (y ∷ xs) (suc j) (suc k) x h at is =
      let less = count_less xs j k x (omega arith) at is in
      let a : count_by p (y ∷ take j xs) ≡ cond (p y) 1 0 + count_by p (take j xs) = sum_by-cons (λ x. cond (p x) 1 0) y (take j xs) in
      let b : count_by p (y ∷ take k xs) ≡ cond (p y) 1 0 + count_by p (take k xs) = sum_by-cons (λ x. cond (p x) 1 0) y (take k xs) in
      omega arith
