-- Facts of all elements of a list.
use Rattle.std.proofs.Common.{◌≡◌, ℕ, zero, suc, ◌+◌, ◌≤◌, Bool, true, false, cond, ◌⊎◌, inl, inr, List, [], ◌∷◌, ◌++◌, Some, map, filter, get_or, slice_get, refl, sym, ap, subst, ◌∙◌, arith, ⊎_elim, ◌||◌}
use Rattle.std.specs.Prelude.{count_by}
use Rattle.std.proofs.lemmas.List.Sums.{sum_by-cons}
use Rattle.std.specs.List.{All, AllPairs, AllByRecursion, flat_map, find, list_any}
use Rattle.std.proofs.lemmas.Bool.{false≢true, or_cases, or_left, or_right}
use Rattle.std.proofs.lemmas.List.Folds.{list_any-append}
use Rattle.std.proofs.lemmas.List.Elements.{All-nil, All-cons, All-append, All-map, All-head, All-tail, All-filter}
use Rattle.std.proofs.lemmas.List.Kept.{AllPairs-cons}

-- what holds of each element that a place gives
pub all_at : {X : Type 0} (P : X → Type 0) (xs : List X) → ((k : ℕ) (x : X) → slice_get xs k ≡ Some x → P x) → All P xs
all_at P [] h = All-nil P
all_at P (x ∷ xs) h = All-cons P x xs (h 0 x refl) (all_at P xs (λ k y at. h (suc k) y at))

-- and the other way round, for a fact by recursion
pub one_of_all : {X : Type 0} (P : X → Type 0) (xs : List X) (k : ℕ) (x : X) → AllByRecursion P xs → slice_get xs k ≡ Some x → P x
one_of_all P [] k x h at = cc
one_of_all P (y ∷ xs) zero x h at = let e : y ≡ x = cc in subst P e h.0
one_of_all P (y ∷ xs) (suc k) x h at = one_of_all P xs k x h.1 at

-- of all that elements bring
pub all_brought : {X Y : Type 0} (P : Y → Type 0) (f : X → List Y) (xs : List X) →
    ((k : ℕ) (x : X) → slice_get xs k ≡ Some x → All P (f x)) → All P (flat_map f xs)
all_brought P f [] h = All-nil P
all_brought P f (x ∷ xs) h = All-append P (f x) (flat_map f xs) (h 0 x refl) (all_brought P f xs (λ k y at. h (suc k) y at))

module _ {X : Type 0} (R : X → X → Type 0) where
  pub pairs_append : (xs ys : List X) → AllPairs R xs → AllPairs R ys → All (λ x. All (R x) ys) xs → AllPairs R (xs ++ ys)
  pairs_append [] ys a b c = b
  pairs_append (x ∷ xs) ys a b c =
      AllPairs-cons R x (xs ++ ys)
      (All-append (R x) xs ys (λ k d within. a zero (suc k) d (omega arith) (omega arith)) (All-head (λ x. All (R x) ys) x xs c))
      (pairs_append xs ys (λ i j d lt within. a (suc i) (suc j) d (omega arith) (omega arith)) b (All-tail (λ x. All (R x) ys) x xs c))

  pub pairs_map : {Y : Type 0} (f : Y → X) (ys : List Y) → AllPairs (λ a b. R (f a) (f b)) ys → AllPairs R (map f ys)
  pairs_map f [] h = λ i j d lt within. absurd (omega arith)
  pairs_map f (y ∷ ys) h =
      AllPairs-cons R (f y) (map f ys) (All-map (R (f y)) f ys (λ k d within. h zero (suc k) d (omega arith) (omega arith)))
      (pairs_map f ys (λ i j d lt within. h (suc i) (suc j) d (omega arith) (omega arith)))

  -- two parts of a list whose elements differ, which no element is in both
  module _ (back : (x y : X) → R x y → R y x) (p q : X → Bool) (apart : (x : X) → p x ≡ true → q x ≡ false) where
    pub pairs_across : (xs : List X) → AllPairs R xs → All (λ x. All (R x) (filter q xs)) (filter p xs)
    pairs_across [] h = All-nil (λ x. All (R x) [])
    pairs_across (x ∷ xs) h = by (pairs_across xs (λ i j d lt within. h (suc i) (suc j) d (omega arith) (omega arith))) (p x) (q x) refl refl
      where
        head : All (R x) xs
        head = λ k d within. h zero (suc k) d (omega arith) (omega arith)

        more : All (λ y. R y x) (filter p xs)
        more = All-filter p (λ y. R y x) xs (λ k d within. back x (get_or xs k d) (head k d within))

        by : All (λ y. All (R y) (filter q xs)) (filter p xs) → (a b : Bool) → p x ≡ a → q x ≡ b → All (λ y. All (R y) (cond b (x ∷ filter q xs) (filter q xs))) (cond a (x ∷ filter p xs) (filter p xs))
        by rest true true e f = absurd (let g = sym (apart x e) ∙ f in cc)
        by rest true false e f = All-cons (λ y. All (R y) (filter q xs)) x (filter p xs) (All-filter q (R x) xs head) rest
        by rest false true e f = λ k d within. All-cons (R (get_or (filter p xs) k d)) x (filter q xs) (more k d within) (rest k d within)
        by rest false false e f = rest

pub map_map : {X Y Z : Type 0} (g : Y → Z) (f : X → Y) (xs : List X) → map g (map f xs) ≡ map (λ x. g (f x)) xs
map_map g f [] = refl
map_map g f (x ∷ xs) = ap (λ l. g (f x) ∷ l) (map_map g f xs)

-- an element of a list of lists, of a mapped list, and of two lists
pub in_append : {X : Type 0} (xs ys : List X) (k : ℕ) (y : X) → slice_get (xs ++ ys) k ≡ Some y →
    ((i : ℕ) × (slice_get xs i ≡ Some y)) ⊎ ((i : ℕ) × (slice_get ys i ≡ Some y))
in_append [] ys k y h = inr (k, h)
in_append (x ∷ xs) ys zero y h = inl (0, h)
in_append (x ∷ xs) ys (suc k) y h = ⊎_elim (λ a. inl (suc a.0, a.1)) (λ b. inr b) (in_append xs ys k y h)

pub in_flat : {X Y : Type 0} (f : X → List Y) (xs : List X) (k : ℕ) (y : Y) → slice_get (flat_map f xs) k ≡ Some y →
    (j : ℕ) × (x : X) × (slice_get xs j ≡ Some x) × (i : ℕ) × (slice_get (f x) i ≡ Some y)
in_flat f [] k y h = cc
in_flat f (x ∷ xs) k y h =
    ⊎_elim (λ a. (0, x, refl, a.0, a.1)) (λ b. let r = in_flat f xs b.0 y b.1 in (suc r.0, r.1, r.2, r.3, r.4)) (in_append (f x) (flat_map f xs) k y h)

pub in_map : {X Y : Type 0} (f : X → Y) (xs : List X) (k : ℕ) (y : Y) → slice_get (map f xs) k ≡ Some y → (x : X) × (slice_get xs k ≡ Some x) × (f x ≡ y)
in_map f [] k y h = cc
in_map f (x ∷ xs) zero y h = (x, refl, (let e : f x ≡ y = cc in e))
in_map f (x ∷ xs) (suc k) y h = in_map f xs k y h

-- the element that is found
pub found_at : {X : Type 0} (p : X → Bool) (xs : List X) (x : X) → find p xs ≡ Some x → (k : ℕ) × (slice_get xs k ≡ Some x) × (p x ≡ true)
found_at p [] x h = cc
found_at {X = X} p (y ∷ xs) x h = by (found_at p xs x) (p y) refl h
  where
    by : (find p xs ≡ Some x → (k : ℕ) × (slice_get xs k ≡ Some x) × (p x ≡ true)) → (b : Bool) → p y ≡ b → cond b (Some y) (find p xs) ≡ Some x →
        (k : ℕ) × (slice_get (y ∷ xs) k ≡ Some x) × (p x ≡ true)
    by later true e g = let same : y ≡ x = cc in (0, ap Some same, ap p (sym same) ∙ e)
    by later false e g = let r = later g in (suc r.0, r.1, r.2)

-- a test that an element passes, and one that none passes
pub any_at : {X : Type 0} (p : X → Bool) (xs : List X) (k : ℕ) (x : X) → slice_get xs k ≡ Some x → p x ≡ true → list_any p xs ≡ true
any_at p [] k x at h = cc
any_at p (y ∷ xs) zero x at h = or_left (p y) (list_any p xs) (let e : y ≡ x = cc in ap p e ∙ h)
any_at p (y ∷ xs) (suc k) x at h = or_right (p y) (list_any p xs) (any_at p xs k x at h)

pub any_map : {X Y : Type 0} (p : Y → Bool) (f : X → Y) (xs : List X) → list_any p (map f xs) ≡ list_any (λ x. p (f x)) xs
any_map p f [] = refl
any_map p f (x ∷ xs) = ap (λ b. p (f x) || b) (any_map p f xs)

-- an element that passes
pub passes_at : {X : Type 0} (p : X → Bool) (xs : List X) → list_any p xs ≡ true → (k : ℕ) × (x : X) × (slice_get xs k ≡ Some x) × (p x ≡ true)
passes_at p [] h = absurd (false≢true h)
passes_at p (x ∷ xs) h =
    ⊎_elim (λ here. (0, x, refl, here)) (λ later. let r = passes_at p xs later in (suc r.0, r.1, r.2, r.3)) (or_cases (p x) (list_any p xs) h)

-- a name among those that some elements bring
pub brings : {X Y : Type 0} (names : X → List Y) (p : Y → Bool) (xs : List X) → list_any p (flat_map names xs) ≡ true →
    (k : ℕ) × (x : X) × (slice_get xs k ≡ Some x) × (list_any p (names x) ≡ true)
brings names p [] h = absurd (false≢true h)
brings names p (x ∷ xs) h =
    ⊎_elim (λ here. (0, x, refl, here))
    (λ later. let r = brings names p xs later in (suc r.0, r.1, r.2, r.3))
    (or_cases (list_any p (names x)) (list_any p (flat_map names xs)) (sym (list_any-append p (names x) (flat_map names xs)) ∙ h))

-- an element of a mapped list, from one of the list
pub map_at : {X Y : Type 0} (f : X → Y) (xs : List X) (k : ℕ) (x : X) → slice_get xs k ≡ Some x → slice_get (map f xs) k ≡ Some (f x)
map_at f [] k x h = cc
map_at f (y ∷ xs) zero x h = let e : y ≡ x = cc in ap (λ z. Some (f z)) e
map_at f (y ∷ xs) (suc k) x h = map_at f xs k x h

-- where some element passes, one at least is counted
pub one_of_any : {X : Type 0} (p : X → Bool) (xs : List X) → list_any p xs ≡ true → 1 ≤ count_by p xs
one_of_any p [] h = absurd (false≢true h)
one_of_any p (x ∷ xs) h = by (p x) refl (one_of_any p xs)
  where
    by : (b : Bool) → p x ≡ b → (list_any p xs ≡ true → 1 ≤ count_by p xs) → 1 ≤ count_by p (x ∷ xs)
    by true e later =
        let all : count_by p (x ∷ xs) ≡ 1 + count_by p xs = sum_by-cons (λ y. cond (p y) 1 0) x xs ∙ ap (λ b. cond b 1 0 + count_by p xs) e in omega arith
    by false e later =
        let all : count_by p (x ∷ xs) ≡ 0 + count_by p xs = sum_by-cons (λ y. cond (p y) 1 0) x xs ∙ ap (λ b. cond b 1 0 + count_by p xs) e in
        let some = later (ap (λ b. b || list_any p xs) (sym e) ∙ h) in
        omega arith
