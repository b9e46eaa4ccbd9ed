-- What a wire has in a scan.
use Rattle.std.specs.Prelude.{ℕ, ◌==◌, ◌&&◌, Bool, true, false, not, List, take}
use Rattle.std.specs.Str.{bytes_eq}
use Rattle.ps_bench_waves.specs.declared.value.Value.{Value}
use Rattle.ps_bench_waves.specs.declared.value.Value.TheVariants.{Bit, Code, Count, Words}
use Rattle.ps_bench_waves.specs.declared.value.TheConstants.{LONGEST_WORDS}

-- what a wire has: a bit; a number of so many bits; or words
pub data Held : Type 0 where
  bit : Bool → Held
  vector : (width number : ℕ) → Held
  words : List ℕ → Held

-- the bytes of words that are written
abbrev pub shortened : List ℕ → List ℕ
shortened bytes = take LONGEST_WORDS bytes

-- what a value is as a wire has it
abbrev pub held : Value → Held
held (Bit value) = bit value
held (Code code) = vector 16 code
held (Count count) = vector 64 count
held (Words text) = words (shortened text.now)

-- two bits are alike
abbrev pub same_bit : Bool → Bool → Bool
same_bit true b = b
same_bit false b = not b

-- two wires have the same
abbrev pub is_same : Held → Held → Bool
is_same (bit a) (bit b) = same_bit a b
is_same (bit a) (vector width number) = false
is_same (bit a) (words bytes) = false
is_same (vector width number) (bit b) = false
is_same (vector width number) (vector w n) = (width == w) && (number == n)
is_same (vector width number) (words bytes) = false
is_same (words bytes) (bit b) = false
is_same (words bytes) (vector width number) = false
is_same (words bytes) (words other) = bytes_eq bytes other
