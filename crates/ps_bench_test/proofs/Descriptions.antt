-- What a reader of TAP makes of a description.
use Rattle.std.proofs.Common.{◌≡◌, ℕ, ◌==◌, List, [], ◌∷◌, ◌++◌, Bool, true, false, None, Some, option_map, if◌then◌else◌, codes}
use Rattle.std.proofs.Common.{refl, sym, ap, ◌∙◌, arith}
use Rattle.ps_bench_test.specs.Reading.{description_from}
use Rattle.ps_bench_test.specs.Tap.{tap_escaped}

-- two bytes that are the same
pub same_byte : (b n : ℕ) → (b == n) ≡ true → b ≡ n
same_byte b n is = grind arith

-- what is written of a byte is read back, by whether it is `#` and whether it is a backslash
byte_read : (b : ℕ) (rest left : List ℕ) (hash back : Bool) → (b == 35) ≡ hash → (b == 92) ≡ back →
    description_from false rest ≡ Some left →
    description_from false ((if hash then codes "\\#" else if back then codes "\\\\" else b ∷ []) ++ rest) ≡ Some (b ∷ left)
byte_read b rest left true back is_hash is_back read =
    ap (option_map (λ (t : List ℕ). 35 ∷ t)) read ∙ ap (λ (n : ℕ). Some (n ∷ left)) (sym (same_byte b 35 is_hash))
byte_read b rest left false true is_hash is_back read =
    ap (option_map (λ (t : List ℕ). 92 ∷ t)) read ∙ ap (λ (n : ℕ). Some (n ∷ left)) (sym (same_byte b 92 is_back))
byte_read b rest left false false is_hash is_back read =
    ap (λ (x : Bool). if x then description_from true rest
    else if b == 35 then None else option_map (λ (t : List ℕ). b ∷ t) (description_from false rest)) is_back
    ∙ ap (λ (x : Bool). if x then None else option_map (λ (t : List ℕ). b ∷ t) (description_from false rest)) is_hash
    ∙ ap (option_map (λ (t : List ℕ). b ∷ t)) read

-- what is written of a description is read back
pub escaped_read : (description : List ℕ) → description_from false (tap_escaped description) ≡ Some description
escaped_read [] = refl
escaped_read (b ∷ bs) = byte_read b (tap_escaped bs) bs (b == 35) (b == 92) refl refl (escaped_read bs)
