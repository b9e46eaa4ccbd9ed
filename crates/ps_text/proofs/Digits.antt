-- Hexadecimal digits: none is a byte that has a meaning of its own, and each is read as its number.
use Rattle.std.proofs.Common.{◌≡◌, ℕ, ◌==◌, ◌+◌, ◌*◌, ◌<◌, ◌/◌, ◌%◌, false, true, arith}
use Rattle.std.proofs.Math.Nat.{div-add-mod}
use Rattle.ps_text.specs.Escaping.{hex_digit, is_quiet}
use Rattle.ps_text.specs.Unescaping.{digit_value}

-- a digit is read as its number
pub digit_value-hex_digit : (n : ℕ) → n < 16 → digit_value (hex_digit n) ≡ n
digit_value-hex_digit n small = grind arith

-- no digit ends an escape
pub hex_digit-no_end : (n : ℕ) → n < 16 → (hex_digit n == 59) ≡ false
hex_digit-no_end n small = grind arith

-- a digit is quiet
pub hex_digit-quiet : (n : ℕ) → n < 16 → is_quiet (hex_digit n) ≡ true
hex_digit-quiet n small = grind arith

-- the half of a byte that its first digit says
pub first_small : (b : ℕ) → b < 256 → b / 16 < 16
first_small b byte = grind arith

-- the half that its second digit says
pub second_small : (b : ℕ) → b % 16 < 16
second_small b = grind arith

-- two digits say the byte
pub both_halves : (b : ℕ) → 16 * (16 * 0 + b / 16) + b % 16 ≡ b
both_halves b = grind (arith, div-add-mod b 16)
