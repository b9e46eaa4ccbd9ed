-- Lists whose elements stand for each other, one more at a time.
use Rattle.std.proofs.Common.{◌≡◌, ◌<◌, ◌+◌, ◌++◌, ℕ, List, [], ◌∷◌, length, take, get_or, sym, ap, ◌∙◌, subst}
use Rattle.std.proofs.lemmas.List.{take_more}
use Rattle.ps_bench_never.specs.Asked.{AreAlike}

-- one more of each
pub alike_push : {A B : Type 0} (P : A → B → Type 0) (xs : List A) (ys : List B) (x : A) (y : B) → AreAlike P xs ys → P x y → AreAlike P (xs ++ x ∷ []) (ys ++ y ∷ [])
alike_push P [] [] x y alike is = (is, tt)
alike_push P [] (b ∷ ys) x y none is = absurd none
alike_push P (a ∷ xs) [] x y none is = absurd none
alike_push P (a ∷ xs) (b ∷ ys) x y alike is = (alike.0, alike_push P xs ys x y alike.1 is)

-- the next element of a list, and one more that stands for it
pub alike_more : {A B : Type 0} (P : A → B → Type 0) (xs : List A) (i : ℕ) (x : A) (old new : List B) (y : B) → i < length xs → x ≡ get_or xs i x → new ≡ old ++ y ∷ [] →
    AreAlike P (take i xs) old → P x y → AreAlike P (take (i + 1) xs) new
alike_more P xs i x old new y inside at pushed alike is =
    let next : take (i + 1) xs ≡ take i xs ++ x ∷ [] = take_more xs i x inside ∙ ap (λ z. take i xs ++ z ∷ []) (sym at) in
    subst (λ ys. AreAlike P (take (i + 1) xs) ys) (sym pushed) (subst (λ zs. AreAlike P zs (old ++ y ∷ [])) (sym next) (alike_push P (take i xs) old x y alike is))
