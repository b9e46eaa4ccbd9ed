-- Walks over numbers down to 0, and over lists that are written from the last place on.
use Rattle.std.proofs.Common.{◌≡◌, ℕ, suc, ◌+◌, ◌-◌, ◌<◌, ◌≤◌, Bool, true, List, [], ◌∷◌, ◌++◌, length, take, sym, ap, ◌∙◌, arith, append_assoc, get_or}
use Rattle.std.specs.Prelude.{◌&&◌, map, slice_set}
use Rattle.std.specs.List.{list_all, range_with_len}
use Rattle.std.proofs.Math.Seq.{set-append_seam}
use Rattle.std.proofs.lemmas.List.{take_more, length-take-le, length-append}
use Rattle.std.proofs.lemmas.List.FromFn.{length-map-range_with_len}

-- a test that the numbers from a place up to n pass, and the number before it
pub all_before : (p : ℕ → Bool) (n left : ℕ) → 0 < left → left ≤ n → list_all p (range_with_len left (n - left)) ≡ true → p (left - 1) ≡ true →
    list_all p (range_with_len (left - 1) (n - (left - 1))) ≡ true
all_before p n left some low later here =
    let one_more : n - (left - 1) ≡ suc (n - left) = omega arith in
    let next : left - 1 + 1 ≡ left = omega arith in
    ap (λ k. list_all p (range_with_len (left - 1) k)) one_more
    ∙ ap (λ b. b && list_all p (range_with_len (left - 1 + 1) (n - left))) here
    ∙ ap (λ k. list_all p (range_with_len k (n - left))) next
    ∙ later

-- one place more of a list, before those that are written, has the value of a function
pub set_before : {X : Type 0} (f : ℕ → X) (xs : List X) (n left : ℕ) (v : X) → 0 < left → left ≤ n → n ≡ length xs → v ≡ f (left - 1) →
    slice_set (take left xs ++ map f (range_with_len left (n - left))) (left - 1) v ≡ take (left - 1) xs ++ map f (range_with_len (left - 1) (n - (left - 1)))
set_before f xs n left v some low whole e =
    let k = left - 1 in
    let m = map f (range_with_len left (n - left)) in
    let y = get_or xs k v in
    let one_more : n - k ≡ suc (n - left) = omega arith in
    let next : k + 1 ≡ left = omega arith in
    let long : length (take k xs) ≡ k = length-take-le k xs (omega arith) in
    ap (λ j. slice_set (take j xs ++ m) k v) (sym next)
    ∙ ap (λ l. slice_set (l ++ m) k v) (take_more xs k v (omega arith))
    ∙ ap (λ l. slice_set l k v) (append_assoc (take k xs) (y ∷ []) m)
    ∙ ap (λ j. slice_set (take k xs ++ y ∷ m) j v) (sym long)
    ∙ set-append_seam (take k xs) y m v
    ∙ ap (λ x. take k xs ++ x ∷ m) e
    ∙ ap (λ j. take k xs ++ f k ∷ map f (range_with_len j (n - left))) (sym next)
    ∙ ap (λ j. take k xs ++ map f (range_with_len k j)) (sym one_more)

-- so far written, a list keeps its length
pub length_before : {X : Type 0} (f : ℕ → X) (xs : List X) (n left : ℕ) → left ≤ n → n ≡ length xs →
    length (take left xs ++ map f (range_with_len left (n - left))) ≡ n
length_before f xs n left low whole =
    let front = length-take-le left xs (omega arith) in
    let back = length-map-range_with_len f left (n - left) in
    let both = length-append (take left xs) (map f (range_with_len left (n - left))) in
    omega arith
