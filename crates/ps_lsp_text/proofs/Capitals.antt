-- The capital hexadecimal digits.
use Rattle.std.proofs.Common.{◌≡◌, ◌<◌, ℕ, List, map, slice_index, refl, ap, ◌∙◌, arith}
use Rattle.std.proofs.lemmas.List.{get_or-map}
use Rattle.std.specs.Char.{to_ascii_uppercase}
use Rattle.hex.specs.Hex.{lower_digits, upper_digits}

-- each is the capital of the small digit of the same value
pub capital_digit : (n : ℕ) → n < 16 → slice_index upper_digits n ≡ to_ascii_uppercase (slice_index lower_digits n)
capital_digit n few =
    let all : upper_digits ≡ map to_ascii_uppercase lower_digits = refl in
    ap (λ (t : List ℕ). slice_index t n) all ∙ get_or-map to_ascii_uppercase lower_digits n 0 0 (omega arith)
