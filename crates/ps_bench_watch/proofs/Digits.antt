-- The digits of a DiagCode.
use Rattle.std.proofs.Common.{◌≡◌, ◌∙◌, ◌/◌, ◌%◌, ◌<◌, ◌≤◌, ◌^◌, ◌⊎◌, inl, inr, ℕ, zero, suc, Bool, true, false, List, [], ◌∷◌, map, nat_lt, refl, ap, ltb-true, get_or, arith}
use Rattle.std.specs.Char.{to_ascii_uppercase}
use Rattle.std.specs.Prelude.{slice_index}
use Rattle.std.proofs.lemmas.Bool.{cases_Bool}
use Rattle.std.proofs.lemmas.Bool.Decides.{nat_tests}
use Rattle.std.proofs.lemmas.Nat.{be_bytes_2}
use Rattle.hex.specs.Hex.{encode_with, lower_digits}
use Rattle.ps_report.specs.Lines.{code_text}

-- a test holds of each number below one
abbrev pub AllBelow : (ℕ → Bool) → ℕ → Type 0
AllBelow test zero = Unit {0}
AllBelow test (suc n) = (test n ≡ true) × AllBelow test n

pub below : (test : ℕ → Bool) (n k : ℕ) → AllBelow test n → k < n → test k ≡ true
below test zero k all less = absurd (omega (arith, less))
below test (suc n) k all less = here (λ smaller. below test n k all.1 smaller) (cases_Bool (nat_lt k n))
  where
    here : (k < n → test k ≡ true) → (nat_lt k n ≡ true) ⊎ (nat_lt k n ≡ false) → test k ≡ true
    here later (inl is) = later (ltb-true k n is)
    here later (inr not_less) = let past : n ≤ k = grind (arith, nat_tests) in let same : k ≡ n = omega (arith, past, less) in ap test same ∙ all.0

-- a hexadecimal digit with a capital letter
abbrev pub hex_digit : ℕ → ℕ
hex_digit n = to_ascii_uppercase (slice_index lower_digits n)

-- the four digits of a DiagCode
abbrev pub four_digits : ℕ → List ℕ
four_digits n =
    hex_digit (n / 256 / 16) ∷ hex_digit (n / 256 % 16) ∷ hex_digit (n % 256 / 16) ∷ hex_digit (n % 256 % 16) ∷ []

two_small : (n : ℕ) → n < 2 ^ 16 → (i : ℕ) → get_or (n / 256 ∷ n % 256 ∷ []) i 0 < 256
two_small n small zero = omega arith
two_small n small (suc zero) = omega arith
two_small n small (suc (suc i)) = omega arith

pub code_digits : (n : ℕ) → n < 2 ^ 16 → code_text n ≡ four_digits n
unfolding encode_with
code_digits n small =
    ap (λ (bytes : List ℕ). map to_ascii_uppercase (encode_with lower_digits bytes))
    (be_bytes_2 (n / 256 ∷ n % 256 ∷ []) n refl (two_small n small) (omega arith))
