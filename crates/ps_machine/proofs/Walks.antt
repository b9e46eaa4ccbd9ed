-- Walks over numbers from 0 on, and over lists that are written place by place.
use Rattle.std.proofs.Common.{◌≡◌, ℕ, suc, ◌+◌, ◌<◌, ◌≤◌, Bool, true, false, List, [], ◌∷◌, ◌++◌, length, drop, sym, ap, ◌∙◌, arith, append_assoc, drop-cons, get_or, add-one, zero-add, length-append, length-drop}
use Rattle.std.specs.Prelude.{◌&&◌, map, slice_set}
use Rattle.std.specs.List.{list_all, range_with_len}
use Rattle.std.proofs.Math.Seq.{set-append_seam}
use Rattle.std.proofs.lemmas.List.Folds.{list_all-append, list_all-map, list_all_at}
use Rattle.std.proofs.lemmas.List.FromFn.{length-map-range_with_len, length-range_with_len, get_or-range_with_len, map-range_with_len_more}

-- a test that the first n numbers pass, and the next one
pub all_more : (p : ℕ → Bool) (n : ℕ) → list_all p (range_with_len 0 n) ≡ true → p n ≡ true → list_all p (range_with_len 0 (n + 1)) ≡ true
all_more p n h e =
    let same : Bool → Bool = λ b. b in
    sym (list_all-map same p (range_with_len 0 (n + 1)))
    ∙ ap (list_all same) (map-range_with_len_more p 0 n n (zero-add n))
    ∙ list_all-append same (map p (range_with_len 0 n)) (p n ∷ [])
    ∙ ap (λ b. b && (p n && true)) (list_all-map same p (range_with_len 0 n) ∙ h)
    ∙ ap (λ b. b && true) e

-- a test that one of the first n numbers fails
pub not_all : (p : ℕ → Bool) (n j : ℕ) → j < n → p j ≡ false → list_all p (range_with_len 0 n) ≡ false
not_all p n j h e =
    list_all_at p (range_with_len 0 n) j 0 (let l = length-range_with_len 0 n in omega arith)
    (ap p (get_or-range_with_len 0 n j 0 h ∙ zero-add j) ∙ e)

-- one more place of a list has the value of a function
pub set_more : {X : Type 0} (f : ℕ → X) (xs : List X) (j : ℕ) (v : X) → j < length xs → v ≡ f j →
    slice_set (map f (range_with_len 0 j) ++ drop j xs) j v ≡ map f (range_with_len 0 (j + 1)) ++ drop (j + 1) xs
set_more f xs j v h e =
    let m = map f (range_with_len 0 j) in
    let y = get_or xs j v in
    let d = drop (suc j) xs in
    ap (λ l. slice_set (m ++ l) j v) (drop-cons xs j v h)
    ∙ ap (λ k. slice_set (m ++ y ∷ d) k v) (sym (length-map-range_with_len f 0 j))
    ∙ set-append_seam m y d v
    ∙ ap (λ x. m ++ x ∷ d) e
    ∙ sym (append_assoc m (f j ∷ []) d)
    ∙ ap (λ l. l ++ d) (sym (map-range_with_len_more f 0 j j (zero-add j)))
    ∙ ap (λ k. map f (range_with_len 0 (j + 1)) ++ drop k xs) (sym (add-one j))

-- so far written, a list keeps its length
pub length_part : {X : Type 0} (f : ℕ → X) (xs : List X) (j : ℕ) → j ≤ length xs → length (map f (range_with_len 0 j) ++ drop j xs) ≡ length xs
length_part f xs j h =
    let m = length-map-range_with_len f 0 j in
    let d = length-drop j xs in
    let both = length-append (map f (range_with_len 0 j)) (drop j xs) in
    omega arith
