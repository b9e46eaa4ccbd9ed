-- The last seven of eight bytes are 0 exactly where the number in the eight is a multiple of 2 ^ 56.
use Rattle.std.proofs.Common.{◌≡◌, ℕ, ◌+◌, ◌*◌, ◌%◌, ◌<◌, ◌^◌, Bool, true, List, [], ◌∷◌, length, sym, ap, ◌∙◌, ⊎_elim, arith, get_or}
use Rattle.std.specs.Prelude.{◌==◌, drop}
use Rattle.std.specs.List.{list_all}
use Rattle.std.specs.Int.{w64, from_be_bytes}
use Rattle.std.proofs.lemmas.Bool.{cases_Bool, and_parts, eqb-true, eq-eqb, true≢false}
use Rattle.ps_model.proofs.Sixteen.{as_sixteen}

are_zeros : List ℕ → Bool
are_zeros bytes = list_all (λ b. b == 0) bytes

zeros_of : (a b c d e f g : ℕ) → are_zeros (a ∷ b ∷ c ∷ d ∷ e ∷ f ∷ g ∷ []) ≡ true →
    (a ≡ 0) × (b ≡ 0) × (c ≡ 0) × (d ≡ 0) × (e ≡ 0) × (f ≡ 0) × (g ≡ 0)
unfolding are_zeros
zeros_of a b c d e f g h =
    let p = and_parts _ _ h in
    let q = and_parts _ _ p.1 in
    let r = and_parts _ _ q.1 in
    let s = and_parts _ _ r.1 in
    let t = and_parts _ _ s.1 in
    let u = and_parts _ _ t.1 in
    let v = and_parts _ _ u.1 in
    (eqb-true a 0 p.0, eqb-true b 0 q.0, eqb-true c 0 r.0, eqb-true d 0 s.0, eqb-true e 0 t.0, eqb-true f 0 u.0, eqb-true g 0 v.0)

-- the number in seven bytes
low : (b c d e f g h : ℕ) → ℕ
low b c d e f g h = b * 281474976710656 + c * 1099511627776 + d * 4294967296 + e * 16777216 + f * 65536 + g * 256 + h

module _ (a b c d e f g h : ℕ) (b-fits : b < 256) (c-fits : c < 256) (d-fits : d < 256) (e-fits : e < 256) (f-fits : f < 256) (g-fits : g < 256) (h-fits : h < 256) where
  low_fits : low b c d e f g h < 2 ^ 56
  unfolding low
  low_fits = omega arith

  number_is : from_be_bytes w64 (a ∷ b ∷ c ∷ d ∷ e ∷ f ∷ g ∷ h ∷ []) ≡ a * 2 ^ 56 + low b c d e f g h
  unfolding low
  number_is = omega arith

  rest_is : from_be_bytes w64 (a ∷ b ∷ c ∷ d ∷ e ∷ f ∷ g ∷ h ∷ []) % 2 ^ 56 ≡ low b c d e f g h
  rest_is = let n = number_is in let fits = low_fits in omega (arith, n, fits)

  all_zero : low b c d e f g h ≡ 0 → are_zeros (b ∷ c ∷ d ∷ e ∷ f ∷ g ∷ h ∷ []) ≡ true
  unfolding low are_zeros
  all_zero n =
      let is-b : b ≡ 0 = omega (arith, n) in
      let is-c : c ≡ 0 = omega (arith, n) in
      let is-d : d ≡ 0 = omega (arith, n) in
      let is-e : e ≡ 0 = omega (arith, n) in
      let is-f : f ≡ 0 = omega (arith, n) in
      let is-g : g ≡ 0 = omega (arith, n) in
      let is-h : h ≡ 0 = omega (arith, n) in
      (λ i. list_all (λ x. x == 0) (is-b i ∷ is-c i ∷ is-d i ∷ is-e i ∷ is-f i ∷ is-g i ∷ is-h i ∷ []))

  none_else : are_zeros (b ∷ c ∷ d ∷ e ∷ f ∷ g ∷ h ∷ []) ≡ true → low b c d e f g h ≡ 0
  unfolding low
  none_else all =
      let z = zeros_of b c d e f g h all in
      omega (arith, z.0, z.1, z.2, z.3, z.4, z.5, z.6)

  zeros_exactly : (from_be_bytes w64 (a ∷ b ∷ c ∷ d ∷ e ∷ f ∷ g ∷ h ∷ []) % 2 ^ 56 == 0) ≡ are_zeros (b ∷ c ∷ d ∷ e ∷ f ∷ g ∷ h ∷ [])
  zeros_exactly =
      ap (λ n. n == 0) rest_is
      ∙ ⊎_elim (λ all. eq-eqb (low b c d e f g h) 0 (none_else all) ∙ sym all)
      (λ some. ⊎_elim (λ y. absurd (true≢false (sym (all_zero (eqb-true (low b c d e f g h) 0 y)) ∙ some))) (λ n. n ∙ sym some) (cases_Bool (low b c d e f g h == 0)))
      (cases_Bool (are_zeros (b ∷ c ∷ d ∷ e ∷ f ∷ g ∷ h ∷ [])))

pub last_zeros : (xs last : List ℕ) (n : ℕ) → length xs ≡ 16 → ((i : ℕ) → get_or xs i 0 < 256) → last ≡ drop 8 xs → n ≡ from_be_bytes w64 last →
    (n % 2 ^ 56 == 0) ≡ list_all (λ b. b == 0) (drop 9 xs)
unfolding are_zeros
last_zeros xs last n long fits is-last is-n =
    ap (λ m. m % 2 ^ 56 == 0) (is-n ∙ ap (from_be_bytes w64) (is-last ∙ ap (drop 8) (as_sixteen xs long)))
    ∙ zeros_exactly (get_or xs 8 0) (get_or xs 9 0) (get_or xs 10 0) (get_or xs 11 0) (get_or xs 12 0) (get_or xs 13 0) (get_or xs 14 0) (get_or xs 15 0)
    (fits 9) (fits 10) (fits 11) (fits 12) (fits 13) (fits 14) (fits 15)
    ∙ sym (ap (λ ys. list_all (λ b. b == 0) (drop 9 ys)) (as_sixteen xs long))
