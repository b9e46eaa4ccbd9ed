-- Lists and what pieces stand for, grown item by item, and results that are there.
use Rattle.std.proofs.Common.{◌≡◌, ℕ, ◌+◌, ◌<◌, List, [], ◌∷◌, ◌++◌, Result, Ok, Err, OnOk, map, take, get_or, length, sym, ap, ◌∙◌, append_assoc}
use Rattle.std.specs.List.{flat_map}
use Rattle.std.proofs.lemmas.List.{append-nil, map_more, take_more}
use Rattle.std.proofs.lemmas.Grind.{flat_map-append}

-- one more item after what was there
pub map_grown : {X Y : Type 0} (f : X → Y) (start written more : List Y) (y : Y) (xs : List X) (i : ℕ) (d : X) → i < length xs →
    written ≡ start ++ map f (take i xs) → more ≡ written ++ y ∷ [] → y ≡ f (get_or xs i d) → more ≡ start ++ map f (take (i + 1) xs)
map_grown f start written more y xs i d lt was is one =
    is ∙ (λ j. was j ++ one j ∷ []) ∙ append_assoc start (map f (take i xs)) (f (get_or xs i d) ∷ []) ∙ ap (λ l. start ++ l) (sym (map_more f xs i d lt))

-- what follows from a result that is there
pub on_ok_then : {X E : Type 0} (P Q : Type 0) (r : Result X E) → (P → Q) → OnOk r P → OnOk r Q
on_ok_then P Q (Ok x) f h = f h
on_ok_then P Q (Err e) f h = tt

-- one more piece
pub piece_pushed : {X Y : Type 0} (f : X → List Y) (old new : List X) (p : X) → new ≡ old ++ p ∷ [] → flat_map f new ≡ flat_map f old ++ f p
piece_pushed f old new p is = ap (flat_map f) is ∙ flat_map-append f old (p ∷ []) ∙ ap (λ l. flat_map f old ++ l) (append-nil (f p))

-- what one more item stands for after what was there
pub flat_grown : {X Y : Type 0} (f : X → List Y) (start written more : List Y) (xs : List X) (i : ℕ) (d : X) → i < length xs →
    written ≡ start ++ flat_map f (take i xs) → more ≡ written ++ f (get_or xs i d) → more ≡ start ++ flat_map f (take (i + 1) xs)
flat_grown f start written more xs i d lt was is =
    let x = get_or xs i d in
    let before = flat_map f (take i xs) in
    is ∙ ap (λ l. l ++ f x) was ∙ append_assoc start before (f x)
    ∙ ap (λ l. start ++ (before ++ l)) (sym (append-nil (f x)))
    ∙ ap (λ l. start ++ l) (sym (flat_map-append f (take i xs) (x ∷ [])))
    ∙ ap (λ l. start ++ flat_map f l) (sym (take_more xs i d lt))
