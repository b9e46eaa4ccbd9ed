-- Lists that go over a range, one number on.
use Rattle.std.proofs.Common.{◌≡◌, ◌∙◌, ◌++◌, ℕ, zero, suc, ◌+◌, List, ap, sym, append_assoc, append-nil, arith}
use Rattle.std.specs.List.{flat_map, range_with_len}

module _ {X : Type 0} (f : ℕ → List X) where
  flat_map_suc : (a n : ℕ) → flat_map f (range_with_len a (suc n)) ≡ flat_map f (range_with_len a n) ++ f (a + n)
  flat_map_suc a zero =
      let here : a + 0 ≡ a = omega arith in
      append-nil (f a) ∙ ap f (sym here)
  flat_map_suc a (suc n) =
      let here : a + 1 + n ≡ a + suc n = omega arith in
      ap (λ (t : List X). f a ++ t) (flat_map_suc (a + 1) n)
      ∙ sym (append_assoc (f a) (flat_map f (range_with_len (a + 1) n)) (f (a + 1 + n)))
      ∙ ap (λ (m : ℕ). (f a ++ flat_map f (range_with_len (a + 1) n)) ++ f m) here

  pub flat_map_more : (n : ℕ) → flat_map f (range_with_len 0 (n + 1)) ≡ flat_map f (range_with_len 0 n) ++ f n
  flat_map_more n =
      let next : n + 1 ≡ suc n = omega arith in
      let here : 0 + n ≡ n = omega arith in
      ap (λ (m : ℕ). flat_map f (range_with_len 0 m)) next ∙ flat_map_suc 0 n
      ∙ ap (λ (m : ℕ). flat_map f (range_with_len 0 n) ++ f m) here
