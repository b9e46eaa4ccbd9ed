-- The sixteen stored bytes of an instance, and what they say.
use Rattle.std.proofs.Common.{◌≡◌, ℕ, zero, suc, ◌+◌, ◌-◌, ◌^◌, ◌<◌, ◌≤◌, Bool, true, false, Option, Some, None, List, [], ◌∷◌, length, take, drop, refl, sym, ap, ◌∙◌, subst, arith, lit<, lit≤, add-zero, length-drop}
use Rattle.std.specs.Prelude.{slice_index}
use Rattle.std.specs.Int.{w16, w32, to_be_bytes, from_be_bytes}
use Rattle.std.proofs.lemmas.Nat.{from_be_bytes-to_be_bytes_2, from_be_bytes-to_be_bytes_4}
use Rattle.std.proofs.lemmas.List.{get_or-take, get_or-drop, length-take-le, length-map}
use Rattle.ps_model.specs.declared.kind.Kind.{Kind}
use Rattle.ps_model.specs.Kept.{Kept}
use Rattle.ps_model.specs.Stored.{bit, be2, be4, kept_in, loaded, stored as stored_kept, IsKept}
use Rattle.ps_model.proofs.Sixteen.{bit_is_one, loads_loaded, loaded_loads, short_code}
use Rattle.ps_eqvm.specs.Plain.{complement}
use Rattle.ps_eqvm.specs.Instances.{sixteen_at, LoadAs, LoadNowhere}
use Rattle.ps_eqvm.proofs.Complements.{complement_index, complement_part, complement_small}

-- what was stored is read again
kept_again : (k : Kept) → k.code < 2 ^ 16 → k.timer < 2 ^ 32 → kept_in (stored_kept k) ≡ k
kept_again k short timer =
    let code = from_be_bytes-to_be_bytes_2 k.code short in
    let time = from_be_bytes-to_be_bytes_4 k.timer timer in
    λ i. record { code = code i; last_reset = bit_is_one k.last_reset i; last_auxiliary = bit_is_one k.last_auxiliary i; mode = k.mode; timer = time i }

-- a stored truth value is at most 1
pub bit_low : (b : Bool) → bit b ≤ 1
bit_low true = lit≤ tt
bit_low false = lit≤ tt

-- numbers of which each byte is the complement
not_two : (a b : ℕ) → a < 256 → b < 256 → 2 ^ 16 - 1 - from_be_bytes w16 (a ∷ b ∷ []) ≡ from_be_bytes w16 ((255 - a) ∷ (255 - b) ∷ [])
not_two a b p q = omega arith

not_four : (a b c d : ℕ) → a < 256 → b < 256 → c < 256 → d < 256 →
    2 ^ 32 - 1 - from_be_bytes w32 (a ∷ b ∷ c ∷ d ∷ []) ≡ from_be_bytes w32 ((255 - a) ∷ (255 - b) ∷ (255 - c) ∷ (255 - d) ∷ [])
not_four a b c d p q r s = omega arith

pub two_again : (n : ℕ) → n < 2 ^ 16 → n ≡ from_be_bytes w16 (complement (to_be_bytes w16 (2 ^ 16 - 1 - n)))
two_again n small =
    let m = 2 ^ 16 - 1 - n in
    let a = slice_index (to_be_bytes w16 m) 0 in
    let b = slice_index (to_be_bytes w16 m) 1 in
    let again : from_be_bytes w16 (a ∷ b ∷ []) ≡ m = from_be_bytes-to_be_bytes_2 m (omega arith) in
    let low_a : a < 256 = omega arith in
    let low_b : b < 256 = omega arith in
    let e : n ≡ 2 ^ 16 - 1 - from_be_bytes w16 (a ∷ b ∷ []) = omega (arith, again, small) in
    e ∙ not_two a b low_a low_b

pub four_again : (n : ℕ) → n < 2 ^ 32 → n ≡ from_be_bytes w32 (complement (to_be_bytes w32 (2 ^ 32 - 1 - n)))
four_again n small =
    let m = 2 ^ 32 - 1 - n in
    let a = slice_index (to_be_bytes w32 m) 0 in
    let b = slice_index (to_be_bytes w32 m) 1 in
    let c = slice_index (to_be_bytes w32 m) 2 in
    let d = slice_index (to_be_bytes w32 m) 3 in
    let again : from_be_bytes w32 (a ∷ b ∷ c ∷ d ∷ []) ≡ m = from_be_bytes-to_be_bytes_4 m (omega arith) in
    let low_a : a < 256 = omega arith in
    let low_b : b < 256 = omega arith in
    let low_c : c < 256 = omega arith in
    let low_d : d < 256 = omega arith in
    let e : n ≡ 2 ^ 32 - 1 - from_be_bytes w32 (a ∷ b ∷ c ∷ d ∷ []) = omega (arith, again, small) in
    e ∙ not_four a b c d low_a low_b low_c low_d

-- four bytes that are full
each_full : (a b c d : ℕ) → a < 256 → b < 256 → c < 256 → d < 256 → from_be_bytes w32 (a ∷ b ∷ c ∷ d ∷ []) ≡ 2 ^ 32 - 1 → (a ≡ 255) × (b ≡ 255) × (c ≡ 255) × (d ≡ 255)
each_full a b c d p q r s full = (omega arith, omega arith, omega arith, omega arith)

pub four_full : (bytes : List ℕ) (at : ℕ) → ((i : ℕ) → slice_index bytes i < 256) → be4 bytes at ≡ 2 ^ 32 - 1 → (k : ℕ) → k < 4 → slice_index bytes (at + k) ≡ 255
four_full bytes at small full k low =
    let each = each_full (slice_index bytes at) (slice_index bytes (at + 1)) (slice_index bytes (at + 2)) (slice_index bytes (at + 3)) (small at) (small (at + 1)) (small (at + 2)) (small (at + 3)) full in
    by each.0 each.1 each.2 each.3 k low
  where
    by : slice_index bytes at ≡ 255 → slice_index bytes (at + 1) ≡ 255 → slice_index bytes (at + 2) ≡ 255 → slice_index bytes (at + 3) ≡ 255 → (k : ℕ) → k < 4 → slice_index bytes (at + k) ≡ 255
    by a b c d zero low = ap (slice_index bytes) (add-zero at) ∙ a
    by a b c d (suc zero) low = b
    by a b c d (suc (suc zero)) low = c
    by a b c d (suc (suc (suc zero))) low = d
    by a b c d (suc (suc (suc (suc k)))) low = absurd (omega (arith, low))

pub full_four : (bytes : List ℕ) (at : ℕ) → ((k : ℕ) → k < 4 → slice_index bytes (at + k) ≡ 255) → be4 bytes at ≡ 2 ^ 32 - 1
full_four bytes at full =
    let a : slice_index bytes at ≡ 255 = ap (slice_index bytes) (sym (add-zero at)) ∙ full 0 (lit< tt) in
    λ x. from_be_bytes w32 (a x ∷ full 1 (lit< tt) x ∷ full 2 (lit< tt) x ∷ full 3 (lit< tt) x ∷ [])

module _ (stored : List ℕ) (at : ℕ) (within : at + 16 ≤ length stored) (small : (i : ℕ) → slice_index stored i < 256) where
  pub sixteen_long : length (sixteen_at at stored) ≡ 16
  sixteen_long = length-take-le 16 (drop at (complement stored)) (omega (arith, length-drop at (complement stored), length-map stored (λ byte. 255 - byte)))

  pub sixteen_small : (i : ℕ) → slice_index (sixteen_at at stored) i < 256
  sixteen_small i = subst (λ (l : List ℕ). slice_index l i < 256) (complement_part 16 at stored) (complement_small (take 16 (drop at stored)) i)

  pub plain_at : (k j : ℕ) → k < 16 → at + k ≡ j → slice_index (sixteen_at at stored) k ≡ 255 - slice_index stored j
  plain_at k j low is =
      get_or-take 16 (drop at (complement stored)) k 0 low ∙ get_or-drop at (complement stored) k 0 ∙ ap (slice_index (complement stored)) is
      ∙ complement_index stored j (omega arith)

  pub code_is : 2 ^ 16 - 1 - be2 stored at ≡ be2 (sixteen_at at stored) 0
  code_is =
      let e0 = plain_at 0 at (lit< tt) (add-zero at) in
      let e1 = plain_at 1 (at + 1) (lit< tt) refl in
      not_two (slice_index stored at) (slice_index stored (at + 1)) (small at) (small (at + 1)) ∙ (λ x. from_be_bytes w16 (sym e0 x ∷ sym e1 x ∷ []))

  pub timer_is : 2 ^ 32 - 1 - be4 stored (at + 5) ≡ be4 (sixteen_at at stored) 5
  timer_is =
      let e0 = plain_at 5 (at + 5) (lit< tt) refl in
      let e1 = plain_at 6 (at + 5 + 1) (lit< tt) (omega arith) in
      let e2 = plain_at 7 (at + 5 + 2) (lit< tt) (omega arith) in
      let e3 = plain_at 8 (at + 5 + 3) (lit< tt) (omega arith) in
      not_four (slice_index stored (at + 5)) (slice_index stored (at + 5 + 1)) (slice_index stored (at + 5 + 2)) (slice_index stored (at + 5 + 3))
      (small (at + 5)) (small (at + 5 + 1)) (small (at + 5 + 2)) (small (at + 5 + 3)) ∙ (λ x. from_be_bytes w32 (sym e0 x ∷ sym e1 x ∷ sym e2 x ∷ sym e3 x ∷ []))

  zero_from : (k j : ℕ) → k < 16 → at + k ≡ j → slice_index stored j ≡ 255 → 0 ≡ slice_index (sixteen_at at stored) k
  zero_from k j low is full = let e = plain_at k j low is in omega (arith, e, full)

  -- the last seven bytes are stored as 255 exactly where they are 0
  pub zeros_from : ((k : ℕ) → k < 7 → slice_index stored (at + 9 + k) ≡ 255) →
      (0 ≡ slice_index (sixteen_at at stored) 9) × (0 ≡ slice_index (sixteen_at at stored) 10) × (0 ≡ slice_index (sixteen_at at stored) 11) × (0 ≡ slice_index (sixteen_at at stored) 12)
      × (0 ≡ slice_index (sixteen_at at stored) 13) × (0 ≡ slice_index (sixteen_at at stored) 14) × (0 ≡ slice_index (sixteen_at at stored) 15)
  zeros_from full = (
    zero_from 9 (at + 9 + 0) (lit< tt) (omega arith) (full 0 (lit< tt)),
    zero_from 10 (at + 9 + 1) (lit< tt) (omega arith) (full 1 (lit< tt)),
    zero_from 11 (at + 9 + 2) (lit< tt) (omega arith) (full 2 (lit< tt)),
    zero_from 12 (at + 9 + 3) (lit< tt) (omega arith) (full 3 (lit< tt)),
    zero_from 13 (at + 9 + 4) (lit< tt) (omega arith) (full 4 (lit< tt)),
    zero_from 14 (at + 9 + 5) (lit< tt) (omega arith) (full 5 (lit< tt)),
    zero_from 15 (at + 9 + 6) (lit< tt) (omega arith) (full 6 (lit< tt)),
  )

  full_from : (k j : ℕ) → k < 16 → at + k ≡ j → 0 ≡ slice_index (sixteen_at at stored) k → slice_index stored j ≡ 255
  full_from k j low is none = let e = plain_at k j low is in omega (arith, e, none, small j)

  pub rest_from : 0 ≡ slice_index (sixteen_at at stored) 9 → 0 ≡ slice_index (sixteen_at at stored) 10 → 0 ≡ slice_index (sixteen_at at stored) 11 → 0 ≡ slice_index (sixteen_at at stored) 12 →
      0 ≡ slice_index (sixteen_at at stored) 13 → 0 ≡ slice_index (sixteen_at at stored) 14 → 0 ≡ slice_index (sixteen_at at stored) 15 → (k : ℕ) → k < 7 → slice_index stored (at + 9 + k) ≡ 255
  rest_from a b c d e f g zero low = full_from 9 (at + 9 + 0) (lit< tt) (omega arith) a
  rest_from a b c d e f g (suc zero) low = full_from 10 (at + 9 + 1) (lit< tt) (omega arith) b
  rest_from a b c d e f g (suc (suc zero)) low = full_from 11 (at + 9 + 2) (lit< tt) (omega arith) c
  rest_from a b c d e f g (suc (suc (suc zero))) low = full_from 12 (at + 9 + 3) (lit< tt) (omega arith) d
  rest_from a b c d e f g (suc (suc (suc (suc zero)))) low = full_from 13 (at + 9 + 4) (lit< tt) (omega arith) e
  rest_from a b c d e f g (suc (suc (suc (suc (suc zero))))) low = full_from 14 (at + 9 + 5) (lit< tt) (omega arith) f
  rest_from a b c d e f g (suc (suc (suc (suc (suc (suc zero)))))) low = full_from 15 (at + 9 + 6) (lit< tt) (omega arith) g
  rest_from a b c d e f g (suc (suc (suc (suc (suc (suc (suc k))))))) low = absurd (omega (arith, low))

  -- what they load as
  module _ (k : Kept) (short : k.code < 2 ^ 16) (timer : k.timer < 2 ^ 32) where
    pub load_as : stored_kept k ≡ sixteen_at at stored → LoadAs (sixteen_at at stored) k
    load_as e = record {
      kept = λ kind h. loads_loaded kind (sixteen_at at stored) k (record { kept = h; bytes_are = sym e });
      others = λ kind not_kept. by kind not_kept (loaded kind (sixteen_at at stored)) refl;
    }
      where
        by : (kind : Kind) → (IsKept kind k → ⊥) → (o : Option Kept) → loaded kind (sixteen_at at stored) ≡ o → loaded kind (sixteen_at at stored) ≡ None
        by kind not_kept None is = is
        by kind not_kept (Some k') is =
            let l = loaded_loads kind (sixteen_at at stored) sixteen_long sixteen_small k' is in
            let same : k' ≡ k =
            sym (kept_again k' (short_code kind k'.code l.kept.state) l.kept.timer) ∙ ap kept_in (sym l.bytes_are) ∙ ap kept_in (sym e) ∙ kept_again k short timer in
            absurd (not_kept (subst (IsKept kind) same l.kept))

  pub load_nowhere : ((k : Kept) → sixteen_at at stored ≡ stored_kept k → ⊥) → LoadNowhere (sixteen_at at stored)
  load_nowhere unlike kind = by (loaded kind (sixteen_at at stored)) refl
    where
      by : (o : Option Kept) → loaded kind (sixteen_at at stored) ≡ o → loaded kind (sixteen_at at stored) ≡ None
      by None is = is
      by (Some k) is = absurd (unlike k (loaded_loads kind (sixteen_at at stored) sixteen_long sixteen_small k is).bytes_are)
