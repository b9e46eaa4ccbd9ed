-- Bytes by two hexadecimal digits each.
use Rattle.std.proofs.Common.{◌≡◌, ◌++◌, ◌/◌, ◌%◌, ℕ, List, [], ◌∷◌, slice_index, refl, sym, ap}
use Rattle.std.proofs.lemmas.List.{append-nil}
use Rattle.hex.specs.Hex.{encode_with}

-- no byte has no digits
pub encode_none : (t before : List ℕ) → before ≡ before ++ encode_with t []
unfolding encode_with
encode_none t before = sym (append-nil before)

-- one more byte
pub encode_more : (t xs : List ℕ) (b : ℕ) → encode_with t (xs ++ b ∷ []) ≡ encode_with t xs ++ (slice_index t (b / 16) ∷ slice_index t (b % 16) ∷ [])
unfolding encode_with
encode_more t [] b = refl
encode_more t (x ∷ xs) b = ap (λ (digits : List ℕ). slice_index t (x / 16) ∷ slice_index t (x % 16) ∷ digits) (encode_more t xs b)
