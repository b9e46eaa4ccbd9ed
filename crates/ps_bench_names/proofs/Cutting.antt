-- Words that are cut at a byte.
use Rattle.std.proofs.Common.{◌≡◌, ◌≤◌, ◌<◌, ◌+◌, ◌-◌, ◌||◌, ℕ, List, [], ◌∷◌, Bool, true, false, not, cond, length, get_or, refl, sym, ◌∙◌, ap, arith}
use Rattle.std.specs.List.{list_any, position_or_len, slice_split, suffix_len}
use Rattle.std.proofs.lemmas.Bool.{false≢true}
use Rattle.std.proofs.lemmas.List.Sums.{suffix_len_is}
use Rattle.std.proofs.lemmas.List.Splits.{slice_split-cons_no}
use Rattle.ps_bench_names.specs.Names.{is_dot}

-- where an element passes there is one
pub any_found : {X : Type 0} (p : X → Bool) (xs : List X) → position_or_len p xs < length xs → list_any p xs ≡ true
any_found p [] less = absurd (omega (arith, less))
any_found p (x ∷ xs) less =
    elim (p x) as (λ (b : Bool). cond (not b) (1 + position_or_len p xs) 0 < length xs + 1 → (b || list_any p xs) ≡ true)
    [ true ↦ λ _. refl | false ↦ λ there. any_found p xs (omega (arith, there)) ] (omega (arith, less))

-- where none does there is none, and the list is one piece
pub none_found : {X : Type 0} (p : X → Bool) (xs : List X) → position_or_len p xs ≡ length xs → list_any p xs ≡ false
none_found p [] all = refl
none_found p (x ∷ xs) all =
    elim (p x) as (λ (b : Bool). cond (not b) (1 + position_or_len p xs) 0 ≡ length xs + 1 → (b || list_any p xs) ≡ false)
    [ true ↦ λ no. absurd (omega (arith, no)) | false ↦ λ there. none_found p xs (omega (arith, there)) ] (omega (arith, all))

-- the head of a list none of whose elements passes
none_first : {X : Type 0} (p : X → Bool) (x : X) (xs : List X) → list_any p (x ∷ xs) ≡ false → (p x ≡ false) × (list_any p xs ≡ false)
none_first p x xs none =
    elim (p x) as (λ (b : Bool). (b || list_any p xs) ≡ false → (b ≡ false) × (list_any p xs ≡ false))
    [ true ↦ λ no. absurd (false≢true (sym no)) | false ↦ λ rest. (refl, rest) ] none

pub one_piece : {X : Type 0} (p : X → Bool) (xs : List X) → list_any p xs ≡ false → slice_split p xs ≡ xs ∷ []
one_piece p [] none = refl
one_piece p (x ∷ xs) none =
    let first = none_first p x xs none in
    slice_split-cons_no p x xs first.0 ∙ rw (one_piece p xs first.1) refl

-- where the last dot stands
pub last_dot : (word : List ℕ) (at : ℕ) → at ≤ length word → ((k : ℕ) → at ≤ k → k < length word → is_dot (get_or word k 0) ≡ false) → (0 < at → is_dot (get_or word (at - 1) 0) ≡ true) →
    length word - suffix_len (λ b. not (is_dot b)) word ≡ at
last_dot word at within behind here =
    let count : suffix_len (λ b. not (is_dot b)) word ≡ length word - at =
    suffix_len_is (λ b. not (is_dot b)) word at 0 within (λ k low high. ap not (behind k low high)) (λ some. ap not (here some)) in
    omega (arith, count, within)
