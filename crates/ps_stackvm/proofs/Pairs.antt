-- Two bytes that are judged as one number.
use Rattle.std.proofs.Common.{◌≡◌, ℕ, zero, suc, ◌<◌, Bool, true, false, List, [], ◌∷◌, refl, sym, ap, ◌∙◌, ⊎_elim, arith, get_or}
use Rattle.std.specs.Prelude.{◌==◌, ◌&&◌, ◌||◌, not, bit_and}
use Rattle.std.specs.List.{list_any}
use Rattle.std.specs.Int.{w16, from_le_bytes}
use Rattle.std.proofs.lemmas.Bool.{cases_Bool, ne_eqb}
use Rattle.ps_machine.specs.Bytes.{is_no_bit}
use Rattle.ps_stackvm.proofs.Gathering.{word, none_odd, odd_none}

-- neither of two
neither : (a b : Bool) → not (a || (b || false)) ≡ (not a && not b)
neither true b = refl
neither false true = refl
neither false false = refl

pair_fits : (a b : ℕ) → a < 256 → b < 256 → (i : ℕ) → get_or (a ∷ b ∷ []) i 0 < 256
pair_fits a b ha hb zero = ha
pair_fits a b ha hb (suc zero) = hb
pair_fits a b ha hb (suc (suc i)) = omega arith

word_pair : (a b : ℕ) → from_le_bytes w16 (a ∷ b ∷ []) ≡ word (a ∷ b ∷ [])
word_pair a b = omega arith

-- both are 0 or 1 exactly where nothing of their number is left without the lowest bit of each
pub pair_holds : (a b : ℕ) → a < 256 → b < 256 → (bit_and (from_le_bytes w16 (a ∷ b ∷ [])) 65278 == 0) ≡ (not (is_no_bit a) && not (is_no_bit b))
pair_holds a b ha hb =
    let pair : List ℕ = a ∷ b ∷ [] in
    ap (λ n. bit_and n 65278 == 0) (word_pair a b)
    ∙ ⊎_elim
    (λ odd. ne_eqb (bit_and (word pair) 65278) 0 (λ none. absurd (cc (odd, odd_none pair 2 (omega arith) (pair_fits a b ha hb) none))) ∙ sym (ap not odd))
    (λ even. ap (λ n. n == 0) (none_odd pair 2 even) ∙ sym (ap not even))
    (cases_Bool (list_any is_no_bit pair))
    ∙ neither (is_no_bit a) (is_no_bit b)
