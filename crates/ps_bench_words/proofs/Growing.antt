-- A list that is gone through from its beginning, item by item.
use Rattle.std.proofs.Common.{◌≡◌, ◌∙◌, ◌+◌, ◌<◌, ◌∷◌, [], ℕ, List, length, map, take, get_or, ap}
use Rattle.std.specs.Prelude.{fold}
use Rattle.std.proofs.lemmas.Grind.{fold-append}
use Rattle.std.proofs.lemmas.List.{map-append, take_more}

-- one item more, of what each item is
pub one_mapped_more : {X A B : Type 0} (f : B → A → B) (b : B) (h : X → A) (xs : List X) (i : ℕ) (d : X) → i < length xs →
    fold f b (map h (take (i + 1) xs)) ≡ f (fold f b (map h (take i xs))) (h (get_or xs i d))
one_mapped_more f b h xs i d within =
    ap (λ ys. fold f b (map h ys)) (take_more xs i d within)
    ∙ ap (fold f b) (map-append h (take i xs) (get_or xs i d ∷ []))
    ∙ fold-append f b (map h (take i xs)) (h (get_or xs i d) ∷ [])
