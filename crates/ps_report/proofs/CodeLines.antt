-- The lines of a code, one after another.
use Rattle.std.proofs.Common.{◌≡◌, ℕ, zero, suc, ◌+◌, List, [], ◌++◌, ap, sym, ◌∙◌, append_assoc, arith}
use Rattle.std.specs.List.{flat_map, range_with_len}
use Rattle.std.proofs.lemmas.Grind.{common_steps}

-- the texts of one number more
flat_map-range_suc : (f : ℕ → List ℕ) (a n : ℕ) → flat_map f (range_with_len a (suc n)) ≡ flat_map f (range_with_len a n) ++ f (a + n)
flat_map-range_suc f a zero =
    let here : a + 0 ≡ a = omega arith in
    let empty : f a ++ [] ≡ f a = simp common_steps in
    empty ∙ ap f (sym here)
flat_map-range_suc f a (suc n) =
    let here : a + 1 + n ≡ a + suc n = omega arith in
    ap (λ (t : List ℕ). f a ++ t) (flat_map-range_suc f (a + 1) n)
    ∙ sym (append_assoc (f a) (flat_map f (range_with_len (a + 1) n)) (f (a + 1 + n)))
    ∙ ap (λ (m : ℕ). (f a ++ flat_map f (range_with_len (a + 1) n)) ++ f m) here

pub flat_map-range_more : (f : ℕ → List ℕ) (n : ℕ) → flat_map f (range_with_len 0 (n + 1)) ≡ flat_map f (range_with_len 0 n) ++ f n
flat_map-range_more f n =
    let next : n + 1 ≡ suc n = omega arith in
    let here : 0 + n ≡ n = omega arith in
    ap (λ (m : ℕ). flat_map f (range_with_len 0 m)) next ∙ flat_map-range_suc f 0 n ∙ ap (λ (m : ℕ). flat_map f (range_with_len 0 n) ++ f m) here
