-- Tests and pieces over a range of numbers.
use Rattle.std.proofs.Common.{◌≡◌, ◌<◌, ◌≤◌, ◌+◌, ◌++◌, ◌||◌, ℕ, zero, suc, Bool, true, false, List, refl, sym, ap, ◌∙◌, ⊎_elim, arith, append-nil, append_assoc}
use Rattle.std.specs.List.{flat_map, list_any, range_with_len}
use Rattle.std.proofs.lemmas.Bool.{cases_lt, or_left, or_right}

-- a number of the range passes a test
pub any_of_range : (f : ℕ → Bool) (n a j : ℕ) → a ≤ j → j < a + n → f j ≡ true → list_any f (range_with_len a n) ≡ true
any_of_range f zero a j low high h = absurd (omega arith)
any_of_range f (suc n) a j low high h =
    ⊎_elim
    (λ later. or_right (f a) (list_any f (range_with_len (a + 1) n)) (any_of_range f n (a + 1) j (omega arith) (omega arith) h))
    (λ here. let e : j ≡ a = omega arith in or_left (f a) (list_any f (range_with_len (a + 1) n)) (ap f (sym e) ∙ h))
    (cases_lt a j)

-- none does
pub none_of_range : (f : ℕ → Bool) (n a : ℕ) → ((j : ℕ) → a ≤ j → j < a + n → f j ≡ false) → list_any f (range_with_len a n) ≡ false
none_of_range f zero a h = refl
none_of_range f (suc n) a h =
    ap (λ b. b || list_any f (range_with_len (a + 1) n)) (h a (omega arith) (omega arith))
    ∙ none_of_range f n (a + 1) (λ j low high. h j (omega arith) (omega arith))

-- the pieces of one more number
more_of_range : {X : Type 0} (f : ℕ → List X) (n a : ℕ) → flat_map f (range_with_len a (n + 1)) ≡ flat_map f (range_with_len a n) ++ f (a + n)
more_of_range f zero a =
    let here : a + 0 ≡ a = omega arith in
    append-nil (f a) ∙ ap f (sym here)
more_of_range f (suc n) a =
    let next : suc n + 1 ≡ suc (n + 1) = omega arith in
    let far : a + 1 + n ≡ a + suc n = omega arith in
    ap (λ k. flat_map f (range_with_len a k)) next ∙ ap (λ r. f a ++ r) (more_of_range f n (a + 1) ∙ ap (λ k. flat_map f (range_with_len (a + 1) n) ++ f k) far)
    ∙ sym (append_assoc (f a) (flat_map f (range_with_len (a + 1) n)) (f (a + suc n)))

-- one more number, from 0 on
pub one_more : {X : Type 0} (f : ℕ → List X) (n : ℕ) (old new : List X) → old ≡ flat_map f (range_with_len 0 n) → new ≡ old ++ f n →
    new ≡ flat_map f (range_with_len 0 (n + 1))
one_more f n old new before here =
    let same : 0 + n ≡ n = omega arith in
    here ∙ ap (λ t. t ++ f n) before ∙ ap (λ k. flat_map f (range_with_len 0 n) ++ f k) (sym same) ∙ sym (more_of_range f n 0)
