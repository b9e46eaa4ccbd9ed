-- Two lists together, place by place.
use Rattle.std.proofs.Common.{◌≡◌, ◌∙◌, ℕ, zero, suc, ◌+◌, ◌<◌, List, [], ◌∷◌, length, map, get_or, set, refl, ap, arith}
use Rattle.std.specs.Prelude.{zip}

-- both lists together
abbrev pub together : {A : Type 0} (f : A → A → A) (xs ys : List A) → List A
together f xs ys = map (λ p. f p.0 p.1) (zip xs ys)

-- the same up to a place, after which the first list stands as it was
abbrev pub upto : {A : Type 0} (f : A → A → A) (n : ℕ) (xs ys : List A) → List A
upto f zero xs ys = xs
upto f (suc n) [] ys = []
upto f (suc n) (x ∷ xs) [] = x ∷ xs
upto f (suc n) (x ∷ xs) (y ∷ ys) = f x y ∷ upto f n xs ys

upto_next : {A : Type 0} (f : A → A → A) (n : ℕ) (xs ys : List A) (d : A) → n < length xs → n < length ys →
    set (upto f n xs ys) n (f (get_or (upto f n xs ys) n d) (get_or ys n d)) ≡ upto f (suc n) xs ys
upto_next f zero [] ys d first second = let no : ⊥ = omega (arith, first) in absurd no
upto_next f zero (x ∷ xs) [] d first second = let no : ⊥ = omega (arith, second) in absurd no
upto_next f zero (x ∷ xs) (y ∷ ys) d first second = refl
upto_next f (suc n) [] ys d first second = let no : ⊥ = omega (arith, first) in absurd no
upto_next f (suc n) (x ∷ xs) [] d first second = let no : ⊥ = omega (arith, second) in absurd no
upto_next f (suc n) (x ∷ xs) (y ∷ ys) d first second =
    ap (λ zs. f x y ∷ zs) (upto_next f n xs ys d (omega (arith, first)) (omega (arith, second)))

-- one place more
pub upto_more : {A : Type 0} (f : A → A → A) (n : ℕ) (xs ys zs : List A) (d : A) → n < length xs → n < length ys →
    zs ≡ upto f n xs ys → set zs n (f (get_or zs n d) (get_or ys n d)) ≡ upto f (n + 1) xs ys
upto_more f n xs ys zs d first second is =
    let next : suc n ≡ n + 1 = omega arith in
    ap (λ ws. set ws n (f (get_or ws n d) (get_or ys n d))) is ∙ upto_next f n xs ys d first second ∙ ap (λ m. upto f m xs ys) next

-- all places
pub upto_all : {A : Type 0} (f : A → A → A) (n : ℕ) (xs ys : List A) → length xs ≡ n → length ys ≡ n → upto f n xs ys ≡ together f xs ys
upto_all f zero [] ys first second = refl
upto_all f zero (x ∷ xs) ys first second = let no : ⊥ = omega (arith, first) in absurd no
upto_all f (suc n) [] ys first second = refl
upto_all f (suc n) (x ∷ xs) [] first second = let no : ⊥ = omega (arith, second) in absurd no
upto_all f (suc n) (x ∷ xs) (y ∷ ys) first second =
    ap (λ zs. f x y ∷ zs) (upto_all f n xs ys (omega (arith, first)) (omega (arith, second)))
