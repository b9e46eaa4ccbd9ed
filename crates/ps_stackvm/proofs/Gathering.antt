-- At most eight bytes of 0 or 1 as one number, and their bits by one multiplication.
use Rattle.std.proofs.Common.{◌≡◌, ℕ, zero, suc, ◌+◌, ◌-◌, ◌*◌, ◌/◌, ◌%◌, ◌^◌, ◌<◌, ◌≤◌, false, List, [], ◌∷◌, length, drop, refl, sym, ap, ◌∙◌, ⊎_elim, arith, get_or}
use Rattle.std.specs.Prelude.{min, bit_and}
use Rattle.std.specs.List.{list_any}
use Rattle.std.specs.Int.{bit_at, w64, from_le_bytes}
use Rattle.std.proofs.lemmas.Bool.{cases_lt, or_parts, or_from, ltb-false, le-ltb}
use Rattle.std.proofs.lemmas.Nat.{and_le_l, div-mul-add, pow-add}
use Rattle.std.proofs.lemmas.Nat.Bits.{bit_at_and, bit_at_lowest, bit_at-suc, bit_at-zero, bit_at_cat_low, bit_at_cat_high, same_from_bits, and_high}
use Rattle.std.proofs.Math.Nat.{div-div-eq-div-mul, zero-div}
use Rattle.std.specs.Int.Bits.{and_zero_l, and_zero_r}
use Rattle.ps_machine.specs.Bytes.{is_no_bit}

-- the number in bytes, the first of them its lowest
abbrev pub word : List ℕ → ℕ
word [] = 0
word (b ∷ bs) = word bs * 256 + b

-- the number whose bits are these, the first of them its lowest
abbrev pub bits_of : List ℕ → ℕ
bits_of [] = 0
bits_of (b ∷ bs) = bits_of bs * 2 + b

-- the number with 254 in each of n bytes
abbrev pub mask : ℕ → ℕ
mask zero = 0
mask (suc n) = mask n * 256 + 254

-- ---- Which numbers have a byte that is neither 0 nor 1.

and_cat : (a b c d : ℕ) → b < 256 → d < 256 → bit_and (a * 256 + b) (c * 256 + d) ≡ bit_and a c * 256 + bit_and b d
and_cat a b c d hb hd = same_from_bits (bit_and (a * 256 + b) (c * 256 + d)) (bit_and a c * 256 + bit_and b d) (λ i. bit_at_and (a * 256 + b) (c * 256 + d) i ∙ each i)
  where
    small : bit_and b d < 256
    small = let e = and_le_l b d in omega arith

    each : (i : ℕ) → min (bit_at (a * 256 + b) i) (bit_at (c * 256 + d) i) ≡ bit_at (bit_and a c * 256 + bit_and b d) i
    each i = ⊎_elim
        (λ low. (λ x. min (bit_at_cat_low a 8 b i low x) (bit_at_cat_low c 8 d i low x)) ∙ sym (bit_at_and b d i) ∙ sym (bit_at_cat_low (bit_and a c) 8 (bit_and b d) i low))
        (λ high. (λ x. min (bit_at_cat_high a 8 b i hb high x) (bit_at_cat_high c 8 d i hd high x)) ∙ sym (bit_at_and a c (i - 8)) ∙ sym (bit_at_cat_high (bit_and a c) 8 (bit_and b d) i small high))
        (cases_lt i 8)

-- the bits of a byte above its lowest
above : (b : ℕ) → bit_and b 254 ≡ (b / 2 % 128) * 2
above b = and_high b 7 1

pub none_odd : (xs : List ℕ) (n : ℕ) → list_any is_no_bit xs ≡ false → bit_and (word xs) (mask n) ≡ 0
none_odd [] n h = and_zero_l (mask n)
none_odd (b ∷ bs) zero h = and_zero_r (word (b ∷ bs))
none_odd (b ∷ bs) (suc n) h =
    let parts = or_parts (is_no_bit b) (list_any is_no_bit bs) h in
    let small : b ≤ 1 = ltb-false 1 b parts.0 in
    let rest : bit_and (word bs) (mask n) ≡ 0 = none_odd bs n parts.1 in
    let low : bit_and b 254 ≡ 0 = let e = above b in omega (arith, e, small) in
    and_cat (word bs) b (mask n) 254 (omega arith) (omega arith) ∙ (λ x. rest x * 256 + low x)

pub odd_none : (xs : List ℕ) (n : ℕ) → length xs ≤ n → ((i : ℕ) → get_or xs i 0 < 256) → bit_and (word xs) (mask n) ≡ 0 → list_any is_no_bit xs ≡ false
odd_none [] n long fits h = refl
odd_none (b ∷ bs) zero long fits h = absurd (omega arith)
odd_none (b ∷ bs) (suc n) long fits h =
    let fit : b < 256 = fits 0 in
    let e : bit_and (word bs) (mask n) * 256 + bit_and b 254 ≡ 0 = sym (and_cat (word bs) b (mask n) 254 fit (omega arith)) ∙ h in
    let rest : bit_and (word bs) (mask n) ≡ 0 = omega (arith, e) in
    let low : b ≤ 1 = let a = above b in omega (arith, a, e, fit) in
    or_from (is_no_bit b) (list_any is_no_bit bs) (le-ltb 1 b low) (odd_none bs n (omega arith) (λ i. fits (suc i)) rest)

-- ---- The bits of bytes of 0 or 1.

pub bit_of : (xs : List ℕ) → list_any is_no_bit xs ≡ false → (j : ℕ) → bit_at (bits_of xs) j ≡ get_or xs j 0
bit_of [] h j = bit_at-zero j
bit_of (b ∷ bs) h zero =
    let small : b ≤ 1 = ltb-false 1 b (or_parts (is_no_bit b) (list_any is_no_bit bs) h).0 in
    bit_at_lowest (bits_of (b ∷ bs)) ∙ (omega (arith, small))
bit_of (b ∷ bs) h (suc j) =
    let parts = or_parts (is_no_bit b) (list_any is_no_bit bs) h in
    let small : b ≤ 1 = ltb-false 1 b parts.0 in
    let half : bits_of (b ∷ bs) / 2 ≡ bits_of bs = omega (arith, small) in
    bit_at-suc (bits_of (b ∷ bs)) j ∙ ap (λ n. bit_at n j) half ∙ bit_of bs parts.1 j

-- eight numbers of 0 or 1, one in each byte, times this constant: the highest byte has the eight as its bits
module _ (a b c d e f g h : ℕ) (a-fits : a ≤ 1) (b-fits : b ≤ 1) (c-fits : c ≤ 1) (d-fits : d ≤ 1) (e-fits : e ≤ 1) (f-fits : f ≤ 1) (g-fits : g ≤ 1) (h-fits : h ≤ 1) where
  past : ℕ
  past = b + 258 * c + 66052 * d + 16909320 * e + 4328785936 * f + 1108169199648 * g + 283691315109952 * h

  bits : ℕ
  bits = a + 2 * b + 4 * c + 8 * d + 16 * e + 32 * f + 64 * g + 128 * h

  below : ℕ
  below = 567382630219904 * a + 1134765260439552 * b + 2269530520813568 * c + 4539061024849920 * d + 9078117754732544 * e + 18155135997837312 * f + 36028797018963968 * g

  product : word (a ∷ b ∷ c ∷ d ∷ e ∷ f ∷ g ∷ h ∷ []) * 72624976668147840 ≡ 18446744073709551616 * past + (72057594037927936 * bits + below)
  unfolding past bits below
  product = omega arith

  below_fits : below < 72057594037927936
  unfolding below
  below_fits = omega arith

  bits_fit : bits < 256
  unfolding bits
  bits_fit = omega arith

  as_bits : bits ≡ bits_of (a ∷ b ∷ c ∷ d ∷ e ∷ f ∷ g ∷ h ∷ [])
  unfolding bits
  as_bits = omega arith

  gather_eight : word (a ∷ b ∷ c ∷ d ∷ e ∷ f ∷ g ∷ h ∷ []) * 72624976668147840 % 2 ^ 64 / 2 ^ 56 ≡ bits_of (a ∷ b ∷ c ∷ d ∷ e ∷ f ∷ g ∷ h ∷ [])
  gather_eight =
      let p = product in
      let t = below_fits in
      let s = bits_fit in
      let r : word (a ∷ b ∷ c ∷ d ∷ e ∷ f ∷ g ∷ h ∷ []) * 72624976668147840 % 2 ^ 64 / 2 ^ 56 ≡ bits = omega (arith, p, t, s) in
      r ∙ as_bits

each_small : (xs : List ℕ) → list_any is_no_bit xs ≡ false → (j : ℕ) → get_or xs j 0 ≤ 1
each_small [] h j = omega arith
each_small (b ∷ bs) h zero = ltb-false 1 b (or_parts (is_no_bit b) (list_any is_no_bit bs) h).0
each_small (b ∷ bs) h (suc j) = each_small bs (or_parts (is_no_bit b) (list_any is_no_bit bs) h).1 j

-- eight bytes: these, and 0 after them
abbrev eight : List ℕ → List ℕ
eight xs = get_or xs 0 0 ∷ get_or xs 1 0 ∷ get_or xs 2 0 ∷ get_or xs 3 0 ∷ get_or xs 4 0 ∷ get_or xs 5 0 ∷ get_or xs 6 0 ∷ get_or xs 7 0 ∷ []

word_eight : (xs : List ℕ) → length xs ≤ 8 → word (eight xs) ≡ word xs
word_eight [] l = refl
word_eight (a ∷ []) l = refl
word_eight (a ∷ b ∷ []) l = refl
word_eight (a ∷ b ∷ c ∷ []) l = refl
word_eight (a ∷ b ∷ c ∷ d ∷ []) l = refl
word_eight (a ∷ b ∷ c ∷ d ∷ e ∷ []) l = refl
word_eight (a ∷ b ∷ c ∷ d ∷ e ∷ f ∷ []) l = refl
word_eight (a ∷ b ∷ c ∷ d ∷ e ∷ f ∷ g ∷ []) l = refl
word_eight (a ∷ b ∷ c ∷ d ∷ e ∷ f ∷ g ∷ h ∷ []) l = refl
word_eight (a ∷ b ∷ c ∷ d ∷ e ∷ f ∷ g ∷ h ∷ i ∷ xs) l = absurd (omega arith)

bits_eight : (xs : List ℕ) → length xs ≤ 8 → bits_of (eight xs) ≡ bits_of xs
bits_eight [] l = refl
bits_eight (a ∷ []) l = refl
bits_eight (a ∷ b ∷ []) l = refl
bits_eight (a ∷ b ∷ c ∷ []) l = refl
bits_eight (a ∷ b ∷ c ∷ d ∷ []) l = refl
bits_eight (a ∷ b ∷ c ∷ d ∷ e ∷ []) l = refl
bits_eight (a ∷ b ∷ c ∷ d ∷ e ∷ f ∷ []) l = refl
bits_eight (a ∷ b ∷ c ∷ d ∷ e ∷ f ∷ g ∷ []) l = refl
bits_eight (a ∷ b ∷ c ∷ d ∷ e ∷ f ∷ g ∷ h ∷ []) l = refl
bits_eight (a ∷ b ∷ c ∷ d ∷ e ∷ f ∷ g ∷ h ∷ i ∷ xs) l = absurd (omega arith)

pub gathers_bits : (xs : List ℕ) → length xs ≤ 8 → list_any is_no_bit xs ≡ false → word xs * 72624976668147840 % 2 ^ 64 / 2 ^ 56 ≡ bits_of xs
gathers_bits xs l h =
    let s = each_small xs h in
    ap (λ n. n * 72624976668147840 % 2 ^ 64 / 2 ^ 56) (sym (word_eight xs l))
    ∙ gather_eight (get_or xs 0 0) (get_or xs 1 0) (get_or xs 2 0) (get_or xs 3 0) (get_or xs 4 0) (get_or xs 5 0) (get_or xs 6 0) (get_or xs 7 0) (s 0) (s 1) (s 2) (s 3) (s 4) (s 5) (s 6) (s 7)
    ∙ bits_eight xs l

-- ---- A number without its lowest bytes.

pub word_shifted : (k : ℕ) (xs : List ℕ) → ((i : ℕ) → get_or xs i 0 < 256) → word xs / 2 ^ (8 * k) ≡ word (drop k xs)
word_shifted zero xs fits = omega arith
word_shifted (suc k) [] fits = zero-div (2 ^ (8 * suc k))
word_shifted (suc k) (b ∷ bs) fits =
    let fit : b < 256 = fits 0 in
    let at : 8 * suc k ≡ 8 + 8 * k = omega arith in
    let less : word (b ∷ bs) / 256 ≡ word bs = div-mul-add (word bs) 256 b fit in
    ap (λ m. word (b ∷ bs) / m) (ap (λ n. 2 ^ n) at ∙ pow-add 2 8 (8 * k))
    ∙ sym (div-div-eq-div-mul (word (b ∷ bs)) (2 ^ 8) (2 ^ (8 * k)))
    ∙ ap (λ n. n / 2 ^ (8 * k)) less
    ∙ word_shifted k bs (λ i. fits (suc i))

pub word_is : (xs : List ℕ) → length xs ≡ 8 → from_le_bytes w64 xs ≡ word xs
word_is xs long = word_of ∙ word_eight xs (omega arith)
  where
    word_of : from_le_bytes w64 xs ≡ word (eight xs)
    word_of = omega arith
