-- Code that a loop writes part by part: what each step or pin adds to its bytes.
use Rattle.std.proofs.Common.{◌≡◌, ℕ, suc, ◌+◌, List, [], ◌∷◌, ◌++◌, take, Some, sym, ap, ◌∙◌, arith, append-nil}
use Rattle.std.specs.Prelude.{slice_get}
use Rattle.std.specs.List.{flat_map, range_with_len}
use Rattle.std.proofs.lemmas.List.{map-id}
use Rattle.std.proofs.lemmas.List.FromFn.{map-range_with_len_more}
use Rattle.std.proofs.lemmas.Grind.{flat_map-append}
use Rattle.ps_model.proofs.Once.{take_next}

-- the bytes with those of one more element
one_more : {X Y : Type 0} (encoded : Y → List ℕ) (f : X → List Y) (xs : List X) (x : X) →
    flat_map encoded (flat_map f (xs ++ x ∷ [])) ≡ flat_map encoded (flat_map f xs) ++ flat_map encoded (f x)
one_more encoded f xs x =
    ap (flat_map encoded) (flat_map-append f xs (x ∷ []))
    ∙ flat_map-append encoded (flat_map f xs) (f x ++ [])
    ∙ ap (λ l. flat_map encoded (flat_map f xs) ++ flat_map encoded l) (append-nil (f x))

-- one more step of a list
pub step_next : {X Y : Type 0} (encoded : Y → List ℕ) (f : X → List Y) (xs : List X) (k : ℕ) (x : X) → slice_get xs k ≡ Some x →
    flat_map encoded (flat_map f (take (k + 1) xs)) ≡ flat_map encoded (flat_map f (take k xs)) ++ flat_map encoded (f x)
step_next encoded f xs k x at =
    let next : k + 1 ≡ suc k = omega arith in
    ap (λ n. flat_map encoded (flat_map f (take n xs))) next
    ∙ ap (λ ys. flat_map encoded (flat_map f ys)) (take_next xs k x at)
    ∙ one_more encoded f (take k xs) x

-- one more pin of a call
pub pin_next : {Y : Type 0} (encoded : Y → List ℕ) (f : ℕ → List Y) (j : ℕ) →
    flat_map encoded (flat_map f (range_with_len 0 (j + 1))) ≡ flat_map encoded (flat_map f (range_with_len 0 j)) ++ flat_map encoded (f j)
pin_next encoded f j =
    let more : range_with_len 0 (j + 1) ≡ range_with_len 0 j ++ j ∷ [] =
    sym (map-id (range_with_len 0 (j + 1))) ∙ map-range_with_len_more (λ x. x) 0 j j (omega arith) ∙ ap (λ l. l ++ j ∷ []) (map-id (range_with_len 0 j)) in
    ap (λ l. flat_map encoded (flat_map f l)) more ∙ one_more encoded f (range_with_len 0 j) j
