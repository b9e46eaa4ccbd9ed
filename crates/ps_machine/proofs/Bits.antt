-- Truth values as bytes.
use Rattle.std.proofs.Common.{◌≡◌, Bool, true, false, refl}
use Rattle.std.specs.Prelude.{◌&&◌, ◌||◌, bit_and, bit_or}
use Rattle.ps_machine.specs.Bytes.{bit, is_no_bit}

pub bit_is_bit : (b : Bool) → is_no_bit (bit b) ≡ false
bit_is_bit true = refl
bit_is_bit false = refl

pub bit_and-bit : (a b : Bool) → bit_and (bit a) (bit b) ≡ bit (a && b)
bit_and-bit true true = refl
bit_and-bit true false = refl
bit_and-bit false true = refl
bit_and-bit false false = refl

pub bit_or-bit : (a b : Bool) → bit_or (bit a) (bit b) ≡ bit (a || b)
bit_or-bit true true = refl
bit_or-bit true false = refl
bit_or-bit false true = refl
bit_or-bit false false = refl
